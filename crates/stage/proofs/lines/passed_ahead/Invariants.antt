use Rattle.std.proofs.Common.{length}
use Rattle.stage.specs.Lines.{EndedLines}
use Rattle.stage.proofs.lines.passed_ahead.Given as goal

-- so many lines lie behind
abbrev pub invariant-loop-length : goal.invariant-loop-length
invariant-loop-length l = EndedLines l.lines l.text l.left

abbrev pub decreases-loop-length : goal.decreases-loop-length
decreases-loop-length l = length l.left
