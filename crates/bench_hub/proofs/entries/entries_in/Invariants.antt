use Rattle.std.proofs.Common.{◌≡◌, ◌++◌, length, take}
use Rattle.bench_hub.specs.Calls.{words_in}
use Rattle.bench_hub.proofs.entries.entries_in.Given as goal

abbrev pub invariant-loop-left : goal.invariant-loop-left
invariant-loop-left l = take 65 (l.entries.items ++ words_in l.left) ≡ take 65 (words_in l.list)

abbrev pub decreases-loop-left : goal.decreases-loop-left
decreases-loop-left l = length l.left
