use Rattle.std.proofs.Common.{◌≡◌, ◌++◌, map, take, drop}
use Rattle.model.specs.Models.{touched}
use Rattle.switch.proofs.row.touch_all.Given as goal

abbrev pub invariant-loop-switch : goal.invariant-loop-switch
invariant-loop-switch l = l.switches ≡ map (touched l.actor) (take l.switch-index l.initial.switches) ++ drop l.switch-index l.initial.switches
