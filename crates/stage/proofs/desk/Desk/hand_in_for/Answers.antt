use Rattle.std.proofs.Common.{◌≡◌, Some, sym, ap, ◌∙◌}
use Rattle.model.specs.Models.{hub_after}
use Rattle.hub.specs.Memory.{hub_model}
use Rattle.hub.specs.Slips.{SlipModel, handed_in}
use Rattle.stage.specs.Slips.{handed_for, handed_told, place_for}
use Rattle.stage.proofs.Places.{place_is}
use Rattle.stage.proofs.desk.Desk.hand_in_for.Goals as goal

pub returns-in-Some-clause-after : goal.returns-in-Some-clause-after
returns-in-Some-clause-after g c =
    let h = hub_model g.S.ActorStore.meaning c.args.self.now.hub in
    let xs = c.args.self.now.held.items in
    let s = c.args.switch in
    let n = c.args.number in
    let i = c.in-Some.i in
    let fate = c.args.fate in
    let wanted : SlipModel = record { switch = s; number = n } in
    let there : place_for s n xs ≡ Some i = ap (place_for s n) (sym c.as_slice.ensures.value) ∙ sym c.in-Some.ensures.answer in
    c.hand_in.ensures.after wanted ∙ ap (λ (x : SlipModel). hub_after h (handed_in fate h x)) (place_is s n xs i wanted there) ∙ sym (ap (handed_for fate h s n) there)

pub returns-in-Some-clause-told : goal.returns-in-Some-clause-told
returns-in-Some-clause-told g c =
    let xs = c.args.self.now.held.items in
    let there : place_for c.args.switch c.args.number xs ≡ Some c.in-Some.i = ap (place_for c.args.switch c.args.number) (sym c.as_slice.ensures.value) ∙ sym c.in-Some.ensures.answer in
    sym (ap handed_told there)
