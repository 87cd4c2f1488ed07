use Rattle.hub.specs.Memory.{hub_model}
use Rattle.stage.proofs.Out.{holds_opened}
use Rattle.stage.proofs.open_over.Goals as goal

pub new-requires : goal.new-requires
new-requires g c =
    let m = g.S.ActorStore.meaning in
    record { none_out = holds_opened c.args.store c.args.site (m c.args.store) (hub_model m c.in-Ok.hub) c.in-Ok.ensures.answer }
