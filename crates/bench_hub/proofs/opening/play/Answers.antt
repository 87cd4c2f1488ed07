use Rattle.std.proofs.Common.{rules, ◌≡◌, ℕ, List, ap, ap₂}
use Rattle.store.specs.Meaning.{meant}
use Rattle.hub.specs.Memory.{hub_model}
use Rattle.bench_hub.specs.Players.{player_scene}
use Rattle.bench_hub.specs.Playing.{scene}
use Rattle.bench_hub.specs.Scripts.{play}
use Rattle.bench_hub.proofs.Plays.{on_opened}
use Rattle.bench_hub.proofs.opening.play.Goals as goal

pub returns-in-Ok : goal.returns-in-Ok
returns-in-Ok g c =
    let m = g.S.ActorStore.meaning in
    let begun = c.new-player.result in
    let whole : (c.play_times-end.result, c.play_times-end.new.out) ≡ play c.args.version (meant m c.args.store) c.args.script.now c.args.times c.args.out.now =
    on_opened c.args.version (meant m c.args.store) (hub_model m c.in-Ok.hub) c.args.script.now c.args.times c.args.out.now c.write_opening.new.out c.play_times-end.new.out
    (player_scene m begun) (player_scene m c.play_times-end.new.self) c.play_times-end.result c.if-out-lt-OUTCOME_LEN.false c.in-Ok.ensures c.write_opening.ensures
    (ap₂ scene c.new-player.ensures.hub c.new-player.ensures.kept) c.play_times-end.ensures.played in
    record { length = ap (λ (p : ℕ × List ℕ). p.0) whole; bytes = ap (λ (p : ℕ × List ℕ). p.1) whole; within = search rules }
