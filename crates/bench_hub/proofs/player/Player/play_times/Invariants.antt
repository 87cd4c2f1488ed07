use Rattle.std.proofs.Common.{◌≡◌, ◌≤◌, length}
use Rattle.bench_hub.specs.Players.{player_scene}
use Rattle.bench_hub.specs.Scripts.{calls_in, play_at, played_times}
use Rattle.bench_hub.proofs.player.Player.play_times.Given as goal

abbrev pub invariant-loop-time : goal.invariant-loop-time
invariant-loop-time g l =
    let m = g.S.ActorStore.meaning in
    record {
      within : l.end ≤ length l.out;
      same : play_at (player_scene m l.self) l.out l.end ≡ played_times l._time (calls_in l.script) l.from (play_at (player_scene m l.fn.self) l.fn.out l.from);
    }
