use Rattle.std.proofs.Common.{take}
use Rattle.hub.specs.Memory.{hub_model}
use Rattle.stage.proofs.Out.{same_take}
use Rattle.stage.proofs.call.take.Goals as goal

pub returns-in-Ok-take-clause-out : goal.returns-in-Ok-take-clause-out
returns-in-Ok-take-clause-out g c =
    let m = g.S.ActorStore.meaning in
    same_take (hub_model m c.args.hub.now) (hub_model m c.take.new.self) (take c.in-Ok.length c.decode.new.out) c.take.ensures.after

pub returns-in-Err-take-clause-out : goal.returns-in-Err-take-clause-out
returns-in-Err-take-clause-out g c =
    let m = g.S.ActorStore.meaning in
    same_take (hub_model m c.args.hub.now) (hub_model m c.take.new.self) (take c.in-Ok.length c.decode.new.out) c.take.ensures.after
