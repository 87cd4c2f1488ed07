use Rattle.std.proofs.Common.{◌≡◌, ◌<◌, false, eqb, take, sym, ap, subst, ◌∙◌, rules, tests, arith}
use Rattle.model.specs.Models.{SwitchModel, lists_actor}
use Rattle.model.specs.Opening.{due_item}
use Rattle.switch.specs.Items.{LawfulItems}
use Rattle.switch.proofs.Lawful.{lawful_more}
use Rattle.switch.proofs.Rooms.{front_more, room_more}
use Rattle.switch.proofs.switch.Switch.list.Goals as goal

pub invariant_of-self : goal.invariant_of-self
invariant_of-self c =
    let a = c.args.actor in
    let s = c.self.inside in
    let old = c.self.invariant in
    let named : eqb a 0 ≡ false = search (rules, tests) in
    let once : lists_actor a (take s.count s.items) ≡ false = ap (λ (m : SwitchModel). lists_actor a m.items) c.self.view_is ∙ sym c.if-lists.ensures in
    let h : s.count < 64 = omega (arith, old.1.few, c.if-self-eq-MOST_ACTORS.false) in (
      record {
        listed = subst LawfulItems (sym (front_more s.items s.count (due_item a) old.1 h)) (lawful_more _ (due_item a) named once old.0.listed);
        numbered = old.0.numbered;
      },
      room_more s.items s.count (due_item a) old.1 h,
    )
