use Rattle.std.proofs.Common.{w16, to_z, of_z}
use Rattle.store.specs.declared.actor_store.Half.TheVariants.{Actual, Target}
use Rattle.hub.specs.Memory.{hub_model}
use Rattle.stage.proofs.Out.{same_control, same_enrol, same_value}
use Rattle.stage.proofs.call.apply.Goals as goal

pub returns-in-Enrol-clause-out : goal.returns-in-Enrol-clause-out
returns-in-Enrol-clause-out g c =
    let m = g.S.ActorStore.meaning in
    same_enrol (hub_model m c.args.hub.now) (hub_model m c.enrol.new.self) c.in-Enrol.switch c.entries.result.now c.enrol.ensures.after

pub returns-in-Actual-clause-out : goal.returns-in-Actual-clause-out
returns-in-Actual-clause-out g c =
    let m = g.S.ActorStore.meaning in
    same_value (hub_model m c.args.hub.now) (hub_model m c.set_actual.new.self) c.in-Actual.actor Actual (to_z w16 (of_z w16 c.in-Actual.value)) c.set_actual.ensures.after

pub returns-in-Target-clause-out : goal.returns-in-Target-clause-out
returns-in-Target-clause-out g c =
    let m = g.S.ActorStore.meaning in
    same_value (hub_model m c.args.hub.now) (hub_model m c.set_target.new.self) c.in-Target.actor Target (to_z w16 (of_z w16 c.in-Target.value)) c.set_target.ensures.after

pub returns-in-Control-clause-out : goal.returns-in-Control-clause-out
returns-in-Control-clause-out g c =
    let m = g.S.ActorStore.meaning in
    same_control (hub_model m c.args.hub.now) (hub_model m c.set_control.new.self) c.in-Control.switch c.in-Control.word c.set_control.ensures.after
