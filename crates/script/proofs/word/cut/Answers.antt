use Rattle.std.proofs.Common.{◌≡◌, suc, ◌+◌, ◌-◌, ◌<◌, ◌≤◌, length, take, drop, arith, rules}
use Rattle.std.proofs.lemmas.List.{take_rest}
use Rattle.hexadecimal.specs.Lines.{length_to}
use Rattle.script.proofs.Entries.{first_part, one_part}
use Rattle.script.proofs.word.cut.Goals as goal

pub returns-in_err-get-clause-parts : goal.returns-in_err-get-clause-parts
returns-in_err-get-clause-parts c =
    let long : length c.args.text.now ≤ length_to c.args.separator c.args.text.now = grind arith in
    rw c.from_residual.ensures (one_part c.args.separator c.args.text.now long)

pub returns-clause-parts : goal.returns-clause-parts
returns-clause-parts c =
    let s = c.args.text.now in
    let n = length_to c.args.separator s in
    let r = c.length_to-end.result in
    let e : r ≡ n = c.length_to-end.ensures.answer in
    let rest : c.in_ok-get.field-0.now ≡ take (length s - (r + 1)) (drop (r + 1) s) = search rules in
    let within : n < length s = grind arith in
    let behind : r + 1 ≡ suc n = omega arith in
    rw (rest, take_rest s (r + 1), behind, e) (first_part c.args.separator s within)
