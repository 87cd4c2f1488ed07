use Rattle.std.proofs.Common.{rules}
use Rattle.bench_hub.specs.Players.{player_scene}
use Rattle.bench_hub.specs.Scripts.{calls_in, play_at}
use Rattle.bench_hub.proofs.Plays.{not_once, once_more}
use Rattle.bench_hub.proofs.player.Player.play_times.Goals as goal

pub loop-time-init : goal.loop-time-init
loop-time-init g c =
    let s = player_scene g.S.ActorStore.meaning c.args.self.now in
    record { within = c.requires.within; same = not_once (calls_in c.args.script.now) c.args.from (play_at s c.args.out.now c.args.from) }

pub loop-time-preserved : goal.loop-time-preserved
loop-time-preserved g c =
    let m = g.S.ActorStore.meaning in
    let first = play_at (player_scene m c.args.self.now) c.args.out.now c.args.from in
    record {
      within = search rules;
      same = once_more c.loop-time._time (calls_in c.args.script.now) c.args.from first (player_scene m c.loop-time.self) c.loop-time.out c.loop-time.end _ c.loop-time.invariant.same
          c.play_script-end.ensures.played;
    }
