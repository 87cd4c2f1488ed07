-- Composing a packet for a switch, and handing its slip back.
use Rattle.std.specs.Prelude.{ℕ, suc, Bool, cond, not, ◌||◌, List, [], ◌∷◌, ◌++◌, length, drop, ℤ, pos, is_some, Some, None, Ok, Err, Option, ◌==◌, nat_lt}
use Rattle.fault.specs.declared.CallFault.TheVariants.{NoSlip, NothingOutstanding, ShortBuffer, SlipOpen}
use Rattle.fault.specs.declared.Fault.TheVariants.{Call}
use Rattle.packet.specs.declared.message.Record.{Record}
use Rattle.packet.specs.declared.message.Record.TheVariants.{Control, EditValue, RealValue}
use Rattle.packet.specs.declared.descriptor.Descriptor.{Descriptor}
use Rattle.packet.specs.Packets.{packet_bytes}
use Rattle.store.specs.Meaning.{Known}
use Rattle.model.specs.declared.item.Item.{Item}
use Rattle.model.specs.declared.mark.Change.TheVariants.{Composed, Withheld}
use Rattle.model.specs.Marks.{is_outstanding}
use Rattle.model.specs.Models.{HubModel, Step, SwitchModel, all_moved, any_outstanding, change_switch, find_switch, is_number, with_numbers}
use Rattle.model.specs.Settings.{at_enrolled}

-- both values of an actor; enrolment sees to it that every listed actor is known
abbrev pub values_of : Option (ℤ × ℤ) → ℤ × ℤ
values_of (Some p) = p
values_of None = (pos 0, pos 0)

-- the records of an outstanding actor: RealValue, then EditValue
abbrev pub actor_records : Known → ℕ → List Record
actor_records store a = RealValue a (values_of (store a)).0 ∷ EditValue a (values_of (store a)).1 ∷ []

-- the records of the outstanding actors, in list order
unfoldable pub item_records : Known → List Item → List Record
item_records store [] = []
item_records store (x ∷ xs) = cond (is_outstanding x.mark) (actor_records store x.actor ++ item_records store xs) (item_records store xs)

-- how many actors these are
unfoldable pub outstanding_actors : List Item → ℕ
outstanding_actors [] = 0
outstanding_actors (x ∷ xs) = cond (is_outstanding x.mark) (suc (outstanding_actors xs)) (outstanding_actors xs)

-- What a packet for a switch says: its outstanding actors, and last its control word if that is outstanding.
abbrev pub records_for : Known → SwitchModel → List Record
records_for store m = item_records store m.items ++ cond (is_outstanding m.mark) (Control m.control ∷ []) []

-- whether any item of a switch is outstanding
abbrev pub has_outstanding : SwitchModel → Bool
has_outstanding m = any_outstanding m.items || is_outstanding m.mark

abbrev pub words_for : HubModel → SwitchModel → Descriptor
words_for h m = record {
  version = h.site.version;
  number = m.numbers.next;
  project = h.site.project;
  firmware = h.site.firmware;
  switch = m.id;
  design = h.site.design;
}

-- the bytes of the packet that compose writes
abbrev pub packet_for : HubModel → SwitchModel → List ℕ
packet_for h m = packet_bytes (words_for h m) (records_for h.store m)

-- after 65,535 comes 1
abbrev pub number_after : ℕ → ℕ
number_after n = cond (n == 65535) 1 (suc n)

-- every outstanding item is under way, and the packet's answer is awaited; its slip is open
abbrev pub composed : SwitchModel → SwitchModel
composed m = with_numbers (record { next = number_after m.numbers.next; awaited = Some m.numbers.next; slip = Some m.numbers.next }) (all_moved Composed m)

-- What compose tells: the packet's length, the actors carried, and the number on the slip.
pub record Composition : Type 0 where
  pub size : ℕ
  pub actors : ℕ
  pub number : ℕ

abbrev pub composition_for : HubModel → SwitchModel → Composition
composition_for h m = record { size = length (packet_for h m); actors = outstanding_actors m.items; number = m.numbers.next }

abbrev pub compose_for : HubModel → ℕ → List ℕ → SwitchModel → Step Composition
compose_for h id buf m =
    cond (is_some m.numbers.slip) (Err (Call SlipOpen 0))
    (cond (not (has_outstanding m)) (Err (Call NothingOutstanding 0))
    (cond (nat_lt (length buf) (length (packet_for h m))) (Err (Call ShortBuffer 0))
    (Ok (composition_for h m, change_switch id composed h))))

-- Composing for a switch into a buffer.
abbrev pub compose : HubModel → ℕ → List ℕ → Step Composition
compose h id buf = at_enrolled (find_switch id h.switches) (compose_for h id buf)

-- The buffer then: the packet, and behind it what the buffer held; all that it held after a refusal.
abbrev pub packet_over : HubModel → Option SwitchModel → List ℕ → Step Composition → List ℕ
packet_over h (Some m) buf (Ok p) = packet_for h m ++ drop (length (packet_for h m)) buf
packet_over h (Some m) buf (Err e) = buf
packet_over h None buf r = buf

abbrev pub composed_bytes : HubModel → ℕ → List ℕ → List ℕ
composed_bytes h id buf = packet_over h (find_switch id h.switches) buf (compose h id buf)

-- Slips: one is known by its switch and its package number, and a switch has at most one.

abbrev pub hand_in : (SwitchModel → SwitchModel) → HubModel → ℕ → ℕ → Option SwitchModel → Step Unit
hand_in f h id number None = Err (Call NoSlip 0)
hand_in f h id number (Some m) = cond (is_number m.numbers.slip number) (Ok (tt, change_switch id f h)) (Err (Call NoSlip 0))

-- Sent closes the slip.
abbrev pub closed_slip : SwitchModel → SwitchModel
closed_slip m = with_numbers (record { next = m.numbers.next; awaited = m.numbers.awaited; slip = None }) m

abbrev pub sent : HubModel → ℕ → ℕ → Step Unit
sent h id number = hand_in closed_slip h id number (find_switch id h.switches)

-- Withheld also makes every item under way due, and nothing is awaited.
abbrev pub brought_back : SwitchModel → SwitchModel
brought_back m = with_numbers (record { next = m.numbers.next; awaited = None; slip = None }) (all_moved Withheld m)

abbrev pub withheld : HubModel → ℕ → ℕ → Step Unit
withheld h id number = hand_in brought_back h id number (find_switch id h.switches)
