use Rattle.std.proofs.Common.{◌≡◌, ◌-◌, ◌≤◌, length}
use Rattle.packet.specs.Reading.{count_of, counted_on, messages_from}
use Rattle.hub.proofs.arrival.count_messages.Given as goal

abbrev pub invariant-loop-message : goal.invariant-loop-message
invariant-loop-message l =
    (l.cursor.payload ≡ l.payload)
    × (l.understood ≤ l.cursor.place)
    × (l.cursor.place ≤ 1488)
    × (counted_on l.understood (count_of (messages_from l.payload l.cursor.place)) ≡ count_of (messages_from l.payload 16))

abbrev pub decreases-loop-message : goal.decreases-loop-message
decreases-loop-message l = length l.cursor.payload - l.cursor.place
