use Rattle.std.proofs.Common.{◌≡◌, ◌+◌, cond, Ok, sym, refl, ap, ◌∙◌, add-zero, arith}
use Rattle.std.proofs.lemmas.Result.{err_from_is_err_and}
use Rattle.packet.specs.Messages.{is_known}
use Rattle.packet.specs.Reading.{count_of, counted_on}
use Rattle.packet.proofs.Steps.{none_left, one_more, stops}
use Rattle.packet.proofs.packet.+count_understood.Goals as goal
use Rattle.packet.proofs.packet.+count_understood.Goals.{then-is_known, else-is_known}

pub returns-in_default : goal.returns-in_default
returns-in_default t c =
    let none = ap (λ r. counted_on c.args.before (count_of r)) (none_left c.args.rest.now c.args.place (omega (arith, c.in_default.len_below))) in
    ap Ok (omega arith) ∙ sym none

pub returns-in_err-message : goal.returns-in_err-message
returns-in_err-message t c =
    let p = err_from_is_err_and c.from_residual.result c.from_residual.ensures.1 in
    let e = c.in_err-message.ensures.answer in
    let m = stops c.args.rest.now c.args.place c.in_err-message.field-0.0 (omega (arith, c.in-len1-up.len_at_least)) (sym e) in
    rw (p.1, p.2) (sym (ap (λ r. counted_on c.args.before (count_of r)) m))

pub returns : goal.returns
returns t c =
    let whole = c.in_ok-message.ensures.whole in
    let more : c.if-is_known.so_far ≡ c.args.before + cond (is_known c.in_ok-message.message) 1 0 = elim c.if-is_known.branch [
      | then-is_known w ↦ w.so_far-is ∙ ap (λ b. c.args.before + cond b 1 0) w.if-is_known.ensures
      | else-is_known w ↦ w.so_far-is ∙ sym (add-zero c.args.before) ∙ ap (λ b. c.args.before + cond b 1 0) w.if-is_known.ensures
    ] in
    c.count_understood.ensures ∙ one_more c.args.rest.now c.args.place c.args.before _ _ c.in_ok-message.message refl more c.in_ok-message.ensures.answer whole.0 whole.1
