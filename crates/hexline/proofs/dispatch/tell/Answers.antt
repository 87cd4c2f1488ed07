use Rattle.std.proofs.Common.{replicate}
use Rattle.hub.specs.Memory.{hub_model}
use Rattle.hub.proofs.Owed.{accepted}
use Rattle.hexline.proofs.dispatch.tell.Goals as goal

pub unwrap-requires : goal.unwrap-requires
unwrap-requires g c =
    accepted (hub_model g.S.ActorStore.meaning c.args.hub.now) c.args.switch (replicate 1472 0) c.in-Ok.field-0 (hub_model g.S.ActorStore.meaning c.compose.new.self)
    c.in-Ok.ensures.answer c.compose.ensures.after c.sent.result c.sent.ensures.answer
