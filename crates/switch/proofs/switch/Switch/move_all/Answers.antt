use Rattle.std.proofs.Common.{List, refl, ap, ◌∙◌, ap₂}
use Rattle.model.specs.declared.item.Item.{Item}
use Rattle.model.specs.declared.mark.Mark.{Mark}
use Rattle.model.specs.Models.{all_moved, moved_item, with_marks}
use Rattle.switch.specs.contracts.switch.Switch.{the_view}
use Rattle.switch.proofs.Rooms.{front_mapped, kept_lawful}
use Rattle.switch.proofs.switch.Switch.move_all.Goals as goal

pub invariant_of-self : goal.invariant_of-self
invariant_of-self c =
    let s = c.self.inside in
    let f = moved_item c.args.change in
    kept_lawful f s.items c.move_all.new.items s.count c.self.invariant.1 c.move_all.ensures (λ x. refl) s.numbers.next c.self.invariant.0

pub returns : goal.returns
returns c =
    let s = c.self.inside in
    let f = moved_item c.args.change in
    ap₂ (λ (l : List Item) (m : Mark). with_marks l m (the_view s)) (front_mapped f s.items c.move_all.new.items s.count c.self.invariant.1 c.move_all.ensures) c.note.ensures
    ∙ ap (all_moved c.args.change) c.self.view_is
