use Rattle.std.proofs.Common.{suc, ◌++◌, take, drop, ◌∙◌, ap, arith}
use Rattle.std.proofs.lemmas.List.{get_or_read}
use Rattle.model.specs.Models.{hub_after}
use Rattle.hub.specs.Memory.{hub_model}
use Rattle.hub.specs.Slips.{SlipModel, handed_in}
use Rattle.hub.proofs.Owed.{granted}
use Rattle.stage.proofs.Out.{holds_as, left_at, owed_at}
use Rattle.stage.proofs.desk.Desk.hand_in.Goals as goal

pub unwrap-requires : goal.unwrap-requires
unwrap-requires g c =
    let desk = c.args.self.now in
    let long = desk.held.ok.0 in
    let within = c.requires.within in
    let h = hub_model g.S.ActorStore.meaning desk.hub in
    let slip = c.remove-slip.result in
    granted slip (handed_in c.args.fate h slip) c.hand_in.result (owed_at h desk.held.items c.args.i slip (omega arith) c.remove-slip.ensures.value desk.holds c.args.fate) c.hand_in.ensures.answer

pub invariant_of-self : goal.invariant_of-self
invariant_of-self g c =
    let desk = c.args.self.now in
    let i = c.args.i in
    let long = desk.held.ok.0 in
    let within = c.requires.within in
    let rest = left_at (hub_model g.S.ActorStore.meaning desk.hub) desk.held.items i c.remove-slip.result (omega arith) c.remove-slip.ensures.value desk.holds c.args.fate in
    record { holds = holds_as _ _ (take i desk.held.items ++ drop (suc i) desk.held.items) _ c.hand_in.ensures.after c.remove-slip.ensures.items rest }

pub returns : goal.returns
returns g c =
    let desk = c.args.self.now in
    let h = hub_model g.S.ActorStore.meaning desk.hub in
    let long = desk.held.ok.0 in
    let within = c.requires.within in
    record {
      after = λ d. c.hand_in.ensures.after ∙ ap (λ (y : SlipModel). hub_after h (handed_in c.args.fate h y)) (get_or_read desk.held.items c.args.i c.remove-slip.result (omega arith) c.remove-slip.ensures.value d);
      fewer = c.remove-slip.ensures.len;
    }
