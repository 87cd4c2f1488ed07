-- What a line of a script is told, and how it is written.
use Rattle.std.specs.Prelude.{ℕ, Bool, true, false, List, ◌++◌, length, take, Some, None, Ok, Err, codes, decimal, Option, Result}
use Rattle.std.specs.Fmt.{signed_decimal}
use Rattle.fault.specs.declared.Fault.{Fault}
use Rattle.fault.specs.Table.{layer_of}
use Rattle.fault.specs.Written.{fault_text, layer_name}
use Rattle.hexadecimal.specs.Encoding.{digits_of}
use Rattle.model.specs.declared.told.Arrival.{Arrival}
use Rattle.model.specs.Composing.{Composition, composed_bytes}
use Rattle.model.specs.Marks.{mark_name}
use Rattle.model.specs.Models.{HubModel, Step, answer_of}
use Rattle.model.specs.Questions.{actor_mark, control_mark, flags_of, key_of, reading_at}
use Rattle.model.specs.Taking.{arrival_name, take_payload}
use Rattle.script.specs.Calls as call
use Rattle.script.specs.Calls.{Said}
use Rattle.script.specs.Reasons.{why, why_text}
use Rattle.stage.specs.declared.outcome.Answer.{Answer}
use Rattle.stage.specs.declared.outcome.Answer.TheVariants as answer
use Rattle.stage.specs.declared.outcome.Outcome.{Outcome}
use Rattle.stage.specs.declared.outcome.Outcome.TheVariants as outcome
use Rattle.stage.specs.declared.outcome.Packet.{Packet}
use Rattle.stage.specs.declared.outcome.Told.{Told}
use Rattle.stage.specs.declared.outcome.Told.TheVariants as told

-- switch, length, actors, number and bytes of a packet
abbrev pub packet_text : Packet → List ℕ
packet_text p = decimal p.switch ++ (codes " " ++ (decimal (length p.payload) ++ (codes " " ++ (decimal p.actors ++ (codes " " ++ (decimal p.number ++ (codes " " ++ digits_of p.payload)))))))

abbrev pub told_text : Told → List ℕ
told_text told.Done = codes "ok"
told_text (told.Taken arrival count) = codes "ok " ++ (arrival_name arrival ++ (codes " " ++ decimal count))
told_text (told.Composed packet) = codes "ok " ++ packet_text packet
told_text (told.Mark mark) = codes "ok " ++ mark_name mark
told_text (told.Flags flags) = codes "ok " ++ decimal flags
told_text (told.Key None) = codes "ok none"
told_text (told.Key (Some press)) = codes "ok " ++ (decimal press.actor ++ (codes " " ++ decimal press.key))
told_text (told.Reading None) = codes "ok none"
told_text (told.Reading (Some tenths)) = codes "ok " ++ signed_decimal tenths

abbrev pub answer_text : Answer → List ℕ
answer_text (answer.Granted told) = told_text told
answer_text (answer.Refused fault) = codes "refused " ++ (layer_name (layer_of fault) ++ (codes " " ++ fault_text fault))
answer_text answer.NoSlip = codes "no slip"
answer_text answer.OpenAlready = codes "unknown: a hub is open already"

abbrev pub outcome_text : Outcome → List ℕ
outcome_text (outcome.Made a) = answer_text a
outcome_text outcome.Unready = codes "unready"
outcome_text outcome.Unasked = codes "unknown: no call before it"
outcome_text (outcome.Unknown reason) = codes "unknown: " ++ why_text (why reason)

-- a line that was no call
abbrev pub is_mistake : Outcome → Bool
is_mistake (outcome.Made (answer.Granted t)) = false
is_mistake (outcome.Made (answer.Refused f)) = false
is_mistake (outcome.Made answer.NoSlip) = false
is_mistake (outcome.Made answer.OpenAlready) = true
is_mistake outcome.Unready = false
is_mistake outcome.Unasked = true
is_mistake (outcome.Unknown reason) = true

abbrev pub answered : {A : Type 0} → (A → Told) → Result A Fault → Answer
answered f (Ok x) = answer.Granted (f x)
answered f (Err e) = answer.Refused e

-- a step that brings nothing more
abbrev pub done : Step Unit → Answer
done r = answered (λ u. told.Done) (answer_of r)

-- what the hub tells of a payload
abbrev pub taken : HubModel → List ℕ → Answer
taken h payload = answered (λ (p : Arrival × ℕ). told.Taken p.0 p.1) (answer_of (take_payload h payload))

-- what composing for a switch into a buffer tells: the packet, which is the front of the buffer then
abbrev pub composed : HubModel → ℕ → List ℕ → Step Composition → Answer
composed h s buf (Ok p) =
    answer.Granted (told.Composed (record { switch = s; actors = p.0.actors; number = p.0.number; payload = take p.0.size (composed_bytes h s buf) }))
composed h s buf (Err e) = answer.Refused e

-- what a question is answered with, if the call is one
abbrev pub asks : Said → HubModel → Option Answer
asks (call.marks s a) h = Some (answered told.Mark (actor_mark h s a))
asks (call.word s) h = Some (answered told.Mark (control_mark h s))
asks (call.flags s) h = Some (answered told.Flags (flags_of h s))
asks (call.key s) h = Some (answered told.Key (key_of h s))
asks (call.reading s) h = Some (answered told.Reading (reading_at h s))
asks (call.open_hub site store) h = None
asks (call.enrol s list) h = None
asks (call.actual a v) h = None
asks (call.target a v) h = None
asks (call.control s word) h = None
asks (call.take digits) h = None
asks (call.compose s room) h = None
asks (call.sent s n) h = None
asks (call.withheld s n) h = None

-- what is told of a question, where one was asked
abbrev pub asked : Result (Option Told) Fault → Option Answer
asked (Ok None) = None
asked (Ok (Some t)) = Some (answer.Granted t)
asked (Err e) = Some (answer.Refused e)
