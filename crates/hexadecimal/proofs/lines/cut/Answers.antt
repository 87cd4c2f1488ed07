use Rattle.std.proofs.lemmas.List.{take_rest}
use Rattle.hexadecimal.proofs.Fronts.{first_at, one_line}
use Rattle.hexadecimal.proofs.lines.cut.Goals as goal

pub returns-then-end-text-clause-first : goal.returns-then-end-text-clause-first
returns-then-end-text-clause-first c = rw take_rest (first_at c.args.text.now c.length_to-end.result c.length_to-end.ensures.answer)

pub returns-else-end-text-clause-first : goal.returns-else-end-text-clause-first
returns-else-end-text-clause-first c = one_line c.args.text.now c.length_to-end.result c.length_to-end.ensures.answer c.if-end-text.false
