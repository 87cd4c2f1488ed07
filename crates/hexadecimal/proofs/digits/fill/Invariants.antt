use Rattle.std.proofs.Common.{◌≡◌, take}
use Rattle.hexadecimal.specs.Decoding.{bytes_of}
use Rattle.hexadecimal.proofs.digits.fill.Given as goal

abbrev pub invariant-loop-i : goal.invariant-loop-i
invariant-loop-i l = take l.i l.out ≡ take l.i (bytes_of l.line)
