use Rattle.std.proofs.Common.{◌≡◌, ◌-◌, ◌≤◌, length}
use Rattle.packet.specs.Reading.{messages_from}
use Rattle.hub.specs.Surveys.{survey_of}
use Rattle.hub.proofs.Surveys.{onto}
use Rattle.hub.proofs.arrival.check_messages.Given as goal

abbrev pub invariant-loop-place : goal.invariant-loop-place
invariant-loop-place l =
    (l.cursor.payload ≡ l.payload)
    × (l.survey.understood ≤ l.cursor.place)
    × (l.cursor.place ≤ 1488)
    × (onto l.survey (survey_of l.switch.items (messages_from l.payload l.cursor.place)) ≡ survey_of l.switch.items (messages_from l.payload 16))

abbrev pub decreases-loop-place : goal.decreases-loop-place
decreases-loop-place l = length l.cursor.payload - l.cursor.place
