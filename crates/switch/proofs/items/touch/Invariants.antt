use Rattle.std.proofs.Common.{◌≡◌}
use Rattle.switch.proofs.Touches.{Unmet}
use Rattle.switch.proofs.items.touch.Given as goal

abbrev pub invariant-loop-item : goal.invariant-loop-item
invariant-loop-item l = record { same : l.items ≡ l.initial.items; unmet : Unmet l.actor l.initial.items l.item-index }
