use Rattle.std.proofs.Common.{◌≡◌, ◌≤◌, length}
use Rattle.bench_hub.specs.Players.{player_scene}
use Rattle.bench_hub.specs.Scripts.{calls_in, play_at, played}
use Rattle.bench_hub.proofs.player.Player.play_script.Given as goal

abbrev pub invariant-loop-call : goal.invariant-loop-call
invariant-loop-call g l =
    let m = g.S.ActorStore.meaning in
    record {
      within : l.at ≤ length l.out;
      same : played (calls_in l.left) (play_at (player_scene m l.self) l.out l.at) ≡ played (calls_in l.fn.script) (play_at (player_scene m l.fn.self) l.fn.out l.fn.from);
    }

abbrev pub decreases-loop-call : goal.decreases-loop-call
decreases-loop-call g l = length l.left
