use Rattle.std.proofs.Common.{rules, ℕ, ◌+◌, ◌-◌, ap}
use Rattle.bench_hub.specs.Players.{player_scene}
use Rattle.bench_hub.specs.Scripts.{play_at}
use Rattle.bench_hub.proofs.Plays.{no_more, no_room, one_more, room_long}
use Rattle.bench_hub.proofs.player.Player.play_script.Goals as goal

pub loop-call-preserved : goal.loop-call-preserved
loop-call-preserved g c =
    let s = player_scene g.S.ActorStore.meaning c.loop-call.self in
    let i = c.loop-call.invariant in
    let room = 10 + c.buffer-room.result in
    record {
      within = search rules;
      same = one_more c.loop-call.left.now c.in-Some.call c.in-Some.body.now c.in-Some.rest.now c.in-Some.ensures.answer s c.loop-call.out c.loop-call.at room
          (ap (λ (n : ℕ). 10 + n) c.buffer-room.ensures) i.within _ i.same c.if-out-at.false (player_scene g.S.ActorStore.meaning c.play_call.new.self) c.play_call.new.room
          (c.loop-call.at + room - c.loop-call.at) c.play_call.ensures.after c.play_call.ensures.bytes (room_long c.loop-call.out c.play_call.new.room c.loop-call.at room c.play_call.auto.room c.if-out-at.false);
    }

pub returns-then-out-at-clause-played : goal.returns-then-out-at-clause-played
returns-then-out-at-clause-played g c =
    let s = player_scene g.S.ActorStore.meaning c.loop-call.self in
    let i = c.loop-call.invariant in
    no_room c.loop-call.left.now c.in-Some.call c.in-Some.body.now c.in-Some.rest.now c.in-Some.ensures.answer s c.loop-call.out c.loop-call.at (10 + c.buffer-room.result)
    (ap (λ (n : ℕ). 10 + n) c.buffer-room.ensures) i.within _ i.same c.if-out-at.true

pub returns-in_default-clause-played : goal.returns-in_default-clause-played
returns-in_default-clause-played g c =
    no_more c.loop-call.left.now c.in_default.ensures.answer (play_at (player_scene g.S.ActorStore.meaning c.loop-call.self) c.loop-call.out c.loop-call.at) _ c.loop-call.invariant.same
