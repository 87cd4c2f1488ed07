use Rattle.std.proofs.Common.{◌≡◌, ◌++◌, map, take, drop}
use Rattle.model.specs.Models.{moved_item}
use Rattle.switch.proofs.items.move_all.Given as goal

abbrev pub invariant-loop-item : goal.invariant-loop-item
invariant-loop-item l = l.items ≡ map (moved_item l.change) (take l.item-index l.initial.items) ++ drop l.item-index l.initial.items
