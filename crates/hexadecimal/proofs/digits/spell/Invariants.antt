use Rattle.std.proofs.Common.{◌≡◌, ◌*◌, ◌++◌, take, drop}
use Rattle.hexadecimal.specs.Encoding.{digits_of}
use Rattle.hexadecimal.proofs.digits.spell.Given as goal

abbrev pub invariant-loop-i : goal.invariant-loop-i
invariant-loop-i l = l.out ≡ digits_of (take l.i l.bytes) ++ drop (2 * l.i) l.initial.out
