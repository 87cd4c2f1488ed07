use Rattle.std.proofs.Common.{List, ap, ◌∙◌}
use Rattle.model.specs.declared.item.Item.{Item}
use Rattle.model.specs.Models.{touched, touched_item, with_marks}
use Rattle.switch.specs.contracts.switch.Switch.{the_view}
use Rattle.switch.proofs.Lawful.{touched_actor}
use Rattle.switch.proofs.Rooms.{front_mapped, kept_lawful}
use Rattle.switch.proofs.switch.Switch.touch.Goals as goal

pub invariant_of-self : goal.invariant_of-self
invariant_of-self c =
    let s = c.self.inside in
    kept_lawful _ s.items c.touch.new.items s.count c.self.invariant.1 c.touch.ensures (touched_actor _) s.numbers.next c.self.invariant.0

pub returns : goal.returns
returns c =
    let s = c.self.inside in
    let a = c.args.actor in
    ap (λ (l : List Item). with_marks l s.mark (the_view s)) (front_mapped (touched_item a) s.items c.touch.new.items s.count c.self.invariant.1 c.touch.ensures)
    ∙ ap (touched a) c.self.view_is
