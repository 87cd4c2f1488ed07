-- Taking a payload from a switch.
use Rattle.std.specs.Prelude.{ℕ, Bool, true, cond, not, List, [], ◌∷◌, ℤ, Some, None, Ok, Err, codes, Option, Result, ◌==◌}
use Rattle.fault.specs.declared.ActorFault.TheVariants.{NotListed}
use Rattle.fault.specs.declared.Fault.{Fault}
use Rattle.fault.specs.declared.Fault.TheVariants as fault
use Rattle.fault.specs.declared.FrameFault.TheVariants.{Project, Switch}
use Rattle.kind.specs.Kinds.{asks_init}
use Rattle.packet.specs.declared.message.Message.{Message}
use Rattle.packet.specs.declared.message.Message.TheVariants.{Known, Unknown}
use Rattle.packet.specs.declared.message.Record.{Record}
use Rattle.packet.specs.declared.message.Record.TheVariants.{State, Control, EditValue, RealValue, Event, Temperature}
use Rattle.packet.specs.declared.descriptor.Descriptor.{Descriptor}
use Rattle.packet.specs.Messages.{understood}
use Rattle.packet.specs.Reading.{messages_from}
use Rattle.packet.specs.Words.{descriptor_of}
use Rattle.store.specs.declared.actor_store.Half.TheVariants.{Target}
use Rattle.model.specs.declared.item.Item.{Item}
use Rattle.model.specs.declared.mark.Change.TheVariants.{Answered, Changed}
use Rattle.model.specs.declared.told.Arrival.{Arrival}
use Rattle.model.specs.declared.told.Arrival.TheVariants as arrival
use Rattle.model.specs.Models.{HubModel, Step, SwitchModel, all_moved, change_switch, find_switch, hub_after, is_number, lists_actor, with_numbers, with_report}
use Rattle.model.specs.Settings.{set_value}

-- Events.

abbrev pub with_flags : ℕ → SwitchModel → SwitchModel
with_flags flags m = with_report (record { flags = flags; key = m.report.key; reading = m.report.reading }) m

-- a State replaces the flags; with InitRequest every item of the switch becomes due
abbrev pub with_state : ℕ → SwitchModel → SwitchModel
with_state flags m = cond (asks_init flags) (all_moved Changed (with_flags flags m)) (with_flags flags m)

abbrev pub with_key : ℕ → ℕ → SwitchModel → SwitchModel
with_key actor key m = with_report (record { flags = m.report.flags; key = Some (record { actor = actor; key = key }); reading = m.report.reading }) m

abbrev pub with_reading : Option ℤ → SwitchModel → SwitchModel
with_reading reading m = with_report (record { flags = m.report.flags; key = m.report.key; reading = reading }) m

-- What one message of an event does: EditValue acts as a target setting, and where that is refused it does nothing; a State, an Event and a
-- Temperature tell of the switch that sent them; the others do nothing.
abbrev pub heard_record : ℕ → Record → HubModel → HubModel
heard_record id (State flags) h = change_switch id (with_state flags) h
heard_record id (Control word) h = h
heard_record id (EditValue actor target) h = hub_after h (set_value h actor Target target)
heard_record id (RealValue actor actual) h = h
heard_record id (Event actor key) h = change_switch id (with_key actor key) h
heard_record id (Temperature reading) h = change_switch id (with_reading reading) h

abbrev pub heard_message : ℕ → Message → HubModel → HubModel
heard_message id (Known r) h = heard_record id r h
heard_message id (Unknown ident) h = h

-- the messages of an event, in order
unfoldable pub heard : ℕ → List (ℕ × Message) → HubModel → HubModel
heard id [] h = h
heard id (m ∷ ms) h = heard id ms (heard_message id m.1 h)

-- whether a switch may send this message: EditValue and Event are for its listed actors only
abbrev pub record_listed : List Item → Record → Bool
record_listed items (State flags) = true
record_listed items (Control word) = true
record_listed items (EditValue actor target) = lists_actor actor items
record_listed items (RealValue actor actual) = true
record_listed items (Event actor key) = lists_actor actor items
record_listed items (Temperature reading) = true

abbrev pub message_listed : List Item → Message → Bool
message_listed items (Known r) = record_listed items r
message_listed items (Unknown ident) = true

-- the offset of the first message for an actor that the switch does not list
unfoldable pub first_unlisted : List Item → List (ℕ × Message) → Option ℕ
first_unlisted items [] = None
first_unlisted items (m ∷ ms) = cond (message_listed items m.1) (first_unlisted items ms) (Some m.0)

abbrev pub event_unless : Option ℕ → ℕ → HubModel → Step (Arrival × ℕ)
event_unless None count g = Ok ((arrival.Event, count), g)
event_unless (Some place) count g = Err (fault.Actor NotListed place)

abbrev pub take_event : HubModel → SwitchModel → ℕ → List (ℕ × Message) → Step (Arrival × ℕ)
take_event h m id ms = event_unless (first_unlisted m.items ms) (understood ms) (heard id ms h)

-- Answers: the awaited number settles every item under way, and nothing is awaited then. Any other answer changes nothing.

abbrev pub answered : SwitchModel → SwitchModel
answered m = with_numbers (record { next = m.numbers.next; awaited = None; slip = m.numbers.slip }) (all_moved Answered m)

abbrev pub take_answer : HubModel → SwitchModel → ℕ → ℕ → List (ℕ × Message) → Step (Arrival × ℕ)
take_answer h m id number ms =
    cond (is_number m.numbers.awaited number) (Ok ((arrival.Answer, understood ms), change_switch id answered h))
    (Ok ((arrival.Stale, understood ms), h))

-- The checks in their order: the descriptor, the project, the switch, the messages; for an event then the listed actors.

abbrev pub take_messages : HubModel → SwitchModel → Descriptor → Result (List (ℕ × Message)) Fault → Step (Arrival × ℕ)
take_messages h m d (Err e) = Err e
take_messages h m d (Ok ms) = cond (d.number == 0) (take_event h m d.switch ms) (take_answer h m d.switch d.number ms)

abbrev pub take_from : HubModel → Option SwitchModel → Descriptor → List ℕ → Step (Arrival × ℕ)
take_from h None d s = Err (fault.Frame Switch 12)
take_from h (Some m) d s = take_messages h m d (messages_from s 16)

abbrev pub take_ours : HubModel → Result Descriptor Fault → List ℕ → Step (Arrival × ℕ)
take_ours h (Err e) s = Err e
take_ours h (Ok d) s = cond (not (d.project == h.site.project)) (Err (fault.Frame Project 8)) (take_from h (find_switch d.switch h.switches) d s)

-- what a payload was, in a word
abbrev pub arrival_name : Arrival → List ℕ
arrival_name arrival.Event = codes "event"
arrival_name arrival.Answer = codes "answer"
arrival_name arrival.Stale = codes "stale"

-- Taking a payload tells what it was, and how many of its messages were understood.
abbrev pub take_payload : HubModel → List ℕ → Step (Arrival × ℕ)
take_payload h s = take_ours h (descriptor_of s) s
