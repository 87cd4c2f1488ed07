use Rattle.std.proofs.Common.{◌≡◌, ◌-◌, true, length, is_ok}
use Rattle.packet.specs.Reading.{messages_from}
use Rattle.umpdump.proofs.show_messages.Given as goal

-- what is left from the cursor on still reads
abbrev pub invariant-loop-offset : goal.invariant-loop-offset
invariant-loop-offset g l = (l.cursor.payload ≡ l.payload) × (is_ok (messages_from l.payload l.cursor.place) ≡ true)

abbrev pub decreases-loop-offset : goal.decreases-loop-offset
decreases-loop-offset g l = length l.payload - l.cursor.place
