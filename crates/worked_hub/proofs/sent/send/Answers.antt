use Rattle.hub.specs.Memory.{hub_model}
use Rattle.hub.proofs.Owed.{accepted}
use Rattle.worked_hub.proofs.sent.send.Goals as goal

pub unwrap-requires : goal.unwrap-requires
unwrap-requires g c =
    accepted (hub_model g.S.ActorStore.meaning c.args.hub.now) c.args.id c.args.buf.now c.in_ok-length.field-0 (hub_model g.S.ActorStore.meaning c.compose.new.self)
    c.in_ok-length.ensures.answer c.compose.ensures.after c.sent.result c.sent.ensures.answer
