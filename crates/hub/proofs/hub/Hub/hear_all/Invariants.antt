use Rattle.std.proofs.Common.{◌≡◌, ◌-◌, true, length, is_ok}
use Rattle.packet.specs.Reading.{messages_from}
use Rattle.hub.specs.Memory.{hub_model}
use Rattle.hub.specs.Surveys.{heard_all}
use Rattle.hub.proofs.hub.Hub.hear_all.Given as goal

abbrev pub invariant-loop-message : goal.invariant-loop-message
invariant-loop-message g l =
    let m = g.S.ActorStore.meaning in
    (l.cursor.payload ≡ l.payload)
    × (is_ok (messages_from l.payload l.cursor.place) ≡ true)
    × (heard_all l.id (messages_from l.payload l.cursor.place) (hub_model m l.self) ≡ heard_all l.id (messages_from l.payload 16) (hub_model m l.initial.self))

abbrev pub decreases-loop-message : goal.decreases-loop-message
decreases-loop-message g l = length l.cursor.payload - l.cursor.place
