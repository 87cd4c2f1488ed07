use Rattle.std.proofs.Common.{◌≡◌, ◌≤◌, drop}
use Rattle.script.proofs.Digits.{read_from}
use Rattle.script.proofs.number.number_to.Given as goal

abbrev pub invariant-loop-c : goal.invariant-loop-c
invariant-loop-c l = (l.n ≤ l.most) × (read_from l.base l.most l.n (drop l.c-index l.word) ≡ read_from l.base l.most 0 l.word)
