use Rattle.std.proofs.Common.{take}
use Rattle.model.specs.Composing.{item_records}
use Rattle.hub.specs.Writing.{Wrote}
use Rattle.hub.proofs.refresh.write_items.Given as goal

abbrev pub invariant-loop-item : goal.invariant-loop-item
invariant-loop-item g l =
    Wrote l.initial.draft l.initial.buf (item_records (g.S.ActorStore.meaning l.store) (take l.item-index l.items)) l.draft l.buf
