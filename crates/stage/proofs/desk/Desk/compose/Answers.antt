use Rattle.hub.specs.Memory.{hub_model}
use Rattle.stage.proofs.Out.{holds_compose}
use Rattle.stage.proofs.desk.Desk.compose.Goals as goal

pub keep-requires : goal.keep-requires
keep-requires g c =
    let desk = c.args.self.now in
    record {
      one_more = holds_compose (hub_model g.S.ActorStore.meaning desk.hub) c.args.switch c.args.buf.now desk.held.items c.in-Ok.composed
          (hub_model g.S.ActorStore.meaning c.compose.new.self) desk.holds c.in-Ok.ensures.answer c.compose.ensures.after;
    }
