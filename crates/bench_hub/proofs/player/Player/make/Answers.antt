use Rattle.std.proofs.Common.{ap, ◌∙◌}
use Rattle.model.specs.Models.{HubModel}
use Rattle.hub.specs.Memory.{hub_model}
use Rattle.hub.specs.Slips.{owed}
use Rattle.bench_hub.proofs.Owing.{after_plain}
use Rattle.bench_hub.proofs.player.Player.make.Goals as goal

pub invariant_of-self : goal.invariant_of-self
invariant_of-self g c =
    let h = hub_model g.S.ActorStore.meaning c.args.self.now.hub in
    record { owed = λ x e. ap (λ (k : HubModel). owed k x) c.apply.ensures.after ∙ after_plain h c.in-Plain.plain c.args.body.now x (c.args.self.now.owed x e) }
