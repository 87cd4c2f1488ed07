use Rattle.std.proofs.Common.{◌≡◌, ℕ, suc, ◌+◌, ◌-◌, ◌<◌, List, Fits, w64, length, drop, take, take_all, ap, subst, sym, ◌∙◌, rules, arith}
use Rattle.std.proofs.lemmas.List.{length-drop}
use Rattle.hexadecimal.specs.Lines.{line_length, rest_of}
use Rattle.stage.specs.Lines.{EndedLines}
use Rattle.stage.proofs.Reading.{ended_more, ended_rest, passes_some}
use Rattle.stage.proofs.lines.passed_ahead.Goals as goal

pub overflow_add-left : goal.overflow_add-left
overflow_add-left c =
    let fits : Fits w64 (length c.args.text.now) = search rules in
    let rest = ended_rest c.loop-length.lines c.args.text.now c.loop-length.left.now c.loop-length.invariant in
    omega (arith, fits, rest.0, c.length_to-length.ensures.within, c.if-length-left.false)

pub overflow_add-lines : goal.overflow_add-lines
overflow_add-lines c =
    let fits : Fits w64 (length c.args.text.now) = search rules in
    let some = passes_some c.loop-length.left.now (sym c.passes_first.ensures ∙ c.loop-length-test.true) in
    omega (arith, fits, some, (ended_rest c.loop-length.lines c.args.text.now c.loop-length.left.now c.loop-length.invariant).0)

pub loop-length-preserved : goal.loop-length-preserved
loop-length-preserved c =
    let text = c.args.text.now in
    let left = c.loop-length.left.now in
    let n = c.loop-length.lines in
    let k = c.length_to-length.result in
    let ends : line_length left < length left = omega (arith, c.length_to-length.ensures.answer, c.length_to-length.ensures.within, c.if-length-left.false) in
    let tail : take (length left - (k + 1)) (drop (k + 1) left) ≡ rest_of left =
    take_all _ _ (omega (arith, length-drop (k + 1) left)) ∙ ap (λ (m : ℕ). drop (m + 1) left) c.length_to-length.ensures.answer in
    let one : suc n ≡ n + 1 = omega arith in
    let more = ended_more n text left c.loop-length.invariant (sym c.passes_first.ensures ∙ c.loop-length-test.true) ends in
    subst (λ (xs : List ℕ). EndedLines (n + 1) text xs) (sym tail) (subst (λ (m : ℕ). EndedLines m text (rest_of left)) one more)

pub overflow_sub-result : goal.overflow_sub-result
overflow_sub-result c = omega (arith, (ended_rest c.loop-length.lines c.args.text.now c.loop-length.left.now c.loop-length.invariant).0)

pub returns-clause-lines : goal.returns-clause-lines
returns-clause-lines c =
    let n = c.loop-length.lines in
    let text = c.args.text.now in
    let left = c.loop-length.left.now in
    subst (λ (xs : List ℕ). EndedLines n text xs) (sym (ended_rest n text left c.loop-length.invariant).1) c.loop-length.invariant
