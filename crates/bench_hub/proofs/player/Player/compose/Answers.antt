use Rattle.hub.specs.Memory.{hub_model}
use Rattle.bench_hub.specs.Playing.{placed, scene}
use Rattle.bench_hub.proofs.Owing.{accepted, issued, kept_owed, owed_as}
use Rattle.bench_hub.proofs.player.Player.compose.Goals as goal

pub place-requires : goal.place-requires
place-requires g c =
    let h = hub_model g.S.ActorStore.meaning c.args.self.now.hub in
    let k = hub_model g.S.ActorStore.meaning c.compose.new.self in
    record { owed = accepted c.args.fate k c.in-Ok.field-0.slip (issued h c.args.switch c.args.buf.now c.in-Ok.field-0 k c.in-Ok.ensures.answer c.compose.ensures.after) }

pub invariant_of-self : goal.invariant_of-self
invariant_of-self g c =
    let m = g.S.ActorStore.meaning in
    let h = hub_model m c.args.self.now.hub in
    let k = hub_model m c.compose.new.self in
    let kept = c.args.self.now.kept in
    let slip = c.in-Ok.field-0.slip in
    record {
      owed = owed_as (scene (hub_model m c.place.new.hub) c.place.new.kept) (placed c.args.fate slip k kept) c.place.ensures
          (kept_owed c.args.fate h c.args.switch c.args.buf.now kept c.in-Ok.field-0 k c.in-Ok.ensures.answer c.compose.ensures.after c.args.self.now.owed);
    }
