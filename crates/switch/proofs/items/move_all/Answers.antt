use Rattle.std.proofs.Common.{get_or, ap}
use Rattle.model.specs.declared.item.Item.{Item}
use Rattle.model.specs.declared.mark.Mark.{Mark}
use Rattle.model.specs.declared.mark.Mark.TheVariants.{Settled}
use Rattle.model.specs.Models.{moved_item}
use Rattle.switch.proofs.Changes.{map_more}
use Rattle.switch.proofs.items.move_all.Goals as goal

pub loop-item-preserved : goal.loop-item-preserved
loop-item-preserved c =
    let d : Item = record { actor = 0; mark = Settled } in
    map_more (moved_item c.args.change) c.args.items.now c.loop-item.items c.loop-item.item-index _ d c.loop-item-test.true c.loop-item.auto.items c.loop-item.invariant
    (ap (λ (m : Mark). record { actor = (get_or c.loop-item.items c.loop-item.item-index d).actor; mark = m }) c.note.ensures)
