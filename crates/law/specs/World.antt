-- One hub, its switches and the lines between them: everything that can happen, one move at a time.
use Rattle.std.specs.Prelude.{◌≡◌, ℕ, suc, ◌+◌, ◌^◌, ◌<◌, true, cond, List, [], ◌∷◌, ◌++◌, length, take, ℤ, Some, None, Ok, Err, Option, ◌==◌, ◌≢◌}
use Rattle.std.specs.List.{AllByRecursion}
use Rattle.fault.specs.declared.Fault.{Fault}
use Rattle.packet.specs.declared.message.Message.{Message}
use Rattle.packet.specs.declared.message.Message.TheVariants.{Known}
use Rattle.packet.specs.declared.message.Record.TheVariants.{EditValue}
use Rattle.packet.specs.declared.descriptor.Descriptor.{Descriptor}
use Rattle.store.specs.declared.actor_store.Half.{Half}
use Rattle.store.specs.declared.actor_store.Half.TheVariants.{Target}
use Rattle.store.specs.Meaning as store
use Rattle.store.specs.Meaning.{lawful}
use Rattle.model.specs.declared.told.Arrival.{Arrival}
use Rattle.model.specs.Composing.{Composition, compose, composed_bytes, sent, withheld}
use Rattle.model.specs.Models.{HubModel, hub_after}
use Rattle.model.specs.Opening.{enrol}
use Rattle.model.specs.Settings.{set_control, set_value}
use Rattle.model.specs.Taking.{take_payload}
use Rattle.law.specs.Values.{Any, Slot, brought_by, note_all, same_slot, show_all, slot, spoken}

-- A packet for a switch: how many were composed for that switch before it, how many values had been accepted at its compose, and its bytes.
pub record Packet : Type 0 where
  pub index : ℕ
  pub since : ℕ
  pub payload : List ℕ

-- An act of a switch, by its number among that switch's acts: a target turned at it, or a restart.
pub data Act : Type 0 where
  turn restart : ℕ → Act

-- What a payload from a switch is: the answer to the packet of this index, the event of the turn of this number of this actor, or another event.
pub data About : Type 0 where
  answer_to : ℕ → About
  turn_of : ℕ → ℕ → About
  other_event : About

-- A payload from a switch, with the number of acts of the switch before it was sent.
pub record Payload : Type 0 where
  pub bytes : List ℕ
  pub about : About
  pub acts_before : ℕ

-- What a switch shows (None: unknown); for each actor its latest act on it since a packet last brought it that actor; the number of its acts.
pub record Display : Type 0 where
  pub shown : Slot → Option ℤ
  pub latest : ℕ → Option Act
  pub acts : ℕ

-- The line to a switch, the head first; the composed packet whose slip is out; how many were composed; those delivered, the newest first.
pub record LineTo : Type 0 where
  pub line : List Packet
  pub waiting : List Packet
  pub composed : ℕ
  pub delivered : List Packet

-- A switch with its lines, and what take accepted from it, the newest first.
pub record End : Type 0 where
  pub display : Display
  pub line_to : LineTo
  pub line_from : List Payload
  pub taken : List Payload

-- The hub, the switches by SwitchID, the store's meaning at the opening, and the accepted values, the newest first.
pub record World : Type 0 where
  pub hub : HubModel
  pub ends : ℕ → End
  pub opened : store.Known
  pub past : List (Slot × ℤ)

abbrev pub with_hub : HubModel → World → World
with_hub h w = record { hub = h; ends = w.ends; opened = w.opened; past = w.past }

abbrev pub with_end : ℕ → End → World → World
with_end s e w = record { hub = w.hub; ends = λ t. cond (s == t) e (w.ends t); opened = w.opened; past = w.past }

abbrev pub with_past : List (Slot × ℤ) → World → World
with_past past w = record { hub = w.hub; ends = w.ends; opened = w.opened; past = past }

abbrev pub with_line_to : LineTo → End → End
with_line_to l e = record { display = e.display; line_to = l; line_from = e.line_from; taken = e.taken }

abbrev pub with_line_from : List Payload → End → End
with_line_from ps e = record { display = e.display; line_to = e.line_to; line_from = ps; taken = e.taken }

-- What happens at a switch.

-- which actors' acts are past: a message that brings a value brings its actor
abbrev pub bring_one : Option (Slot × ℤ) → (ℕ → Option Act) → ℕ → Option Act
bring_one None latest a = latest a
bring_one (Some x) latest a = cond (x.0.actor == a) None (latest a)

unfoldable pub bring_all : List Message → (ℕ → Option Act) → ℕ → Option Act
bring_all [] latest = latest
bring_all (m ∷ ms) latest = bring_all ms (bring_one (brought_by m) latest)

abbrev pub applied : List Message → Display → Display
applied ms d = record { shown = show_all ms d.shown; latest = bring_all ms d.latest; acts = d.acts }

-- the messages that a switch reads in a packet
abbrev pub messages_in : Option (Descriptor × List Message) → List Message
messages_in None = []
messages_in (Some p) = p.1

-- the target of actor a is turned to v
abbrev pub turned : ℕ → ℤ → Display → Display
turned a v d = record {
  shown = λ k. cond (same_slot (slot Target a) k) (Some v) (d.shown k);
  latest = λ b. cond (a == b) (Some (turn d.acts)) (d.latest b);
  acts = suc d.acts;
}

-- a restart acts on every actor, and nothing is known after it
abbrev pub restarted : Display → Display
restarted d = record { shown = λ k. None; latest = λ a. Some (restart d.acts); acts = suc d.acts }

abbrev pub acting : Display → List Payload → End → End
acting d ps e = record { display = d; line_to = e.line_to; line_from = e.line_from ++ ps; taken = e.taken }

-- a payload joins the line from its switch
abbrev pub says : Payload → End → End
says p e = with_line_from (e.line_from ++ (p ∷ [])) e

-- take accepts the head of the line
abbrev pub accepts : Payload → List Payload → End → End
accepts p rest e = record { display = e.display; line_to = e.line_to; line_from = rest; taken = p ∷ e.taken }

-- What happens on the line to a switch.

abbrev pub issued : Packet → LineTo → LineTo
issued p l = record { line = l.line; waiting = p ∷ []; composed = suc l.composed; delivered = l.delivered }

abbrev pub joined : LineTo → LineTo
joined l = record { line = l.line ++ l.waiting; waiting = []; composed = l.composed; delivered = l.delivered }

abbrev pub discarded : LineTo → LineTo
discarded l = record { line = l.line; waiting = []; composed = l.composed; delivered = l.delivered }

abbrev pub lost : List Packet → LineTo → LineTo
lost rest l = record { line = rest; waiting = l.waiting; composed = l.composed; delivered = l.delivered }

abbrev pub delivers : Packet → List Packet → End → End
delivers p rest e = record {
  display = applied (messages_in (spoken p.payload)) e.display;
  line_to = record { line = rest; waiting = e.line_to.waiting; composed = e.line_to.composed; delivered = p ∷ e.line_to.delivered };
  line_from = e.line_from;
  taken = e.taken;
}

-- the packet that compose wrote just now for switch s
abbrev pub packet_now : World → ℕ → List ℕ → Packet
packet_now w s bytes = record { index = (w.ends s).line_to.composed; since = length w.past; payload = bytes }

abbrev pub payload_now : World → ℕ → List ℕ → About → Payload
payload_now w s bytes about = record { bytes = bytes; about = about; acts_before = (w.ends s).display.acts }

-- An answer has the PackageID of a delivered packet and repeats its messages.
abbrev pub Repeats : ℕ → Descriptor → List Message → Packet → Type 0
Repeats k d ms p = (p.index ≡ k) × ((c : Descriptor) × (spoken p.payload ≡ Some (c, ms)) × (d.number ≡ c.number))

-- An answer is taken before 65,535 packets are composed for its switch after the one that it answers.
abbrev pub InTime : ℕ → About → Type 0
InTime composed (answer_to k) = composed < suc k + 65535
InTime composed (turn_of j a) = Unit {0}
InTime composed other_event = Unit {0}

-- The hub's calls, with whatever they are given, and what they leave of the hub.
pub data Call : Type 0 where
  enrolling : ℕ → List ℕ → Call
  setting_value : Half → ℕ → ℤ → Call
  setting_control : ℕ → ℕ → Call
  taking : List ℕ → Call
  composing : ℕ → List ℕ → Call
  sending withholding : ℕ → ℕ → Call

abbrev pub leaves : HubModel → Call → HubModel
leaves h (enrolling id list) = hub_after h (enrol h id list)
leaves h (setting_value half a v) = hub_after h (set_value h a half v)
leaves h (setting_control id word) = hub_after h (set_control h id word)
leaves h (taking payload) = hub_after h (take_payload h payload)
leaves h (composing id buf) = hub_after h (compose h id buf)
leaves h (sending id number) = hub_after h (sent h id number)
leaves h (withholding id number) = hub_after h (withheld h id number)

abbrev pub Refused : HubModel → Call → Type 0
Refused h (enrolling id list) = (e : Fault) × (enrol h id list ≡ Err e)
Refused h (setting_value half a v) = (e : Fault) × (set_value h a half v ≡ Err e)
Refused h (setting_control id word) = (e : Fault) × (set_control h id word ≡ Err e)
Refused h (taking payload) = (e : Fault) × (take_payload h payload ≡ Err e)
Refused h (composing id buf) = (e : Fault) × (compose h id buf ≡ Err e)
Refused h (sending id number) = (e : Fault) × (sent h id number ≡ Err e)
Refused h (withholding id number) = (e : Fault) × (withheld h id number ≡ Err e)

pub data Move (w : World) : World → Type 0 where
  -- Calls that are granted. SwitchIDs and ActorIDs are words of 16 bits.
  enrols : (id : ℕ) (list : List ℕ) (g : HubModel) → id < 2 ^ 16 → AllByRecursion (λ a. a < 2 ^ 16) list → enrol w.hub id list ≡ Ok (tt, g) → Move w (with_hub g w)
  sets : (half : Half) (a : ℕ) (v : ℤ) (g : HubModel) → set_value w.hub a half v ≡ Ok (tt, g) → Move w (with_past ((slot half a, v) ∷ w.past) (with_hub g w))
  sets_control : (id word : ℕ) (g : HubModel) → set_control w.hub id word ≡ Ok (tt, g) → Move w (with_hub g w)
  -- What take accepts under a SwitchID is the head of that switch's line: an event if its PackageID is 0, else an answer, whatever take tells of it.
  takes_event : (s : ℕ) (p : Payload) (rest : List Payload) (d : Descriptor) (ms : List Message) (told : Arrival) (count : ℕ) (g : HubModel)
      → (w.ends s).line_from ≡ p ∷ rest → spoken p.bytes ≡ Some (d, ms) → d.switch ≡ s → d.number ≡ 0 → take_payload w.hub p.bytes ≡ Ok ((told, count), g)
      → Move w (with_end s (accepts p rest (w.ends s)) (with_past (note_all ms w.past) (with_hub g w)))
  takes_answer : (s : ℕ) (p : Payload) (rest : List Payload) (d : Descriptor) (ms : List Message) (told : Arrival) (count : ℕ) (g : HubModel)
      → (w.ends s).line_from ≡ p ∷ rest → spoken p.bytes ≡ Some (d, ms) → d.switch ≡ s → (d.number ≢ 0) → take_payload w.hub p.bytes ≡ Ok ((told, count), g)
      → InTime (w.ends s).line_to.composed p.about → Move w (with_end s (accepts p rest (w.ends s)) (with_hub g w))
  -- Compose puts the bytes that it wrote on the slip; they join the line when the slip is accepted as sent.
  composes : (s : ℕ) (buf : List ℕ) (c : Composition) (g : HubModel) → compose w.hub s buf ≡ Ok (c, g)
      → Move w (with_end s (with_line_to (issued (packet_now w s (take c.size (composed_bytes w.hub s buf))) (w.ends s).line_to) (w.ends s)) (with_hub g w))
  sends : (s number : ℕ) (g : HubModel) → sent w.hub s number ≡ Ok (tt, g) → Move w (with_end s (with_line_to (joined (w.ends s).line_to) (w.ends s)) (with_hub g w))
  withholds : (s number : ℕ) (g : HubModel) → withheld w.hub s number ≡ Ok (tt, g) → Move w (with_end s (with_line_to (discarded (w.ends s).line_to) (w.ends s)) (with_hub g w))
  -- Any call that is refused.
  refuses : (c : Call) → Refused w.hub c → Move w (with_hub (leaves w.hub c) w)
  -- The head of a line is delivered or lost.
  arrives : (s : ℕ) (p : Packet) (rest : List Packet) → (w.ends s).line_to.line ≡ p ∷ rest → Move w (with_end s (delivers p rest (w.ends s)) w)
  loses_packet : (s : ℕ) (p : Packet) (rest : List Packet) → (w.ends s).line_to.line ≡ p ∷ rest
      → Move w (with_end s (with_line_to (lost rest (w.ends s).line_to) (w.ends s)) w)
  loses_payload : (s : ℕ) (p : Payload) (rest : List Payload) → (w.ends s).line_from ≡ p ∷ rest → Move w (with_end s (with_line_from rest (w.ends s)) w)
  -- A switch answers a packet that was delivered to it, at once or later.
  answers : (s k : ℕ) (bytes : List ℕ) (d : Descriptor) (ms : List Message) → spoken bytes ≡ Some (d, ms) → Any (Repeats k d ms) (w.ends s).line_to.delivered
      → Move w (with_end s (says (payload_now w s bytes (answer_to k)) (w.ends s)) w)
  -- A target is turned at a switch to a lawful value, shown, and sent as an EditValue event.
  turns : (s a : ℕ) (v : ℤ) (bytes : List ℕ) (d : Descriptor) (ms : List Message)
      → lawful v ≡ true → spoken bytes ≡ Some (d, ms) → d.number ≡ 0 → Any (λ m. m ≡ Known (EditValue a v)) ms
      → Move w (with_end s (acting (turned a v (w.ends s).display) (payload_now w s bytes (turn_of (w.ends s).display.acts a) ∷ []) (w.ends s)) w)
  -- A switch restarts.
  restarts : (s : ℕ) → Move w (with_end s (acting (restarted (w.ends s).display) [] (w.ends s)) w)
  -- Any other event, State with InitRequest among them.
  reports : (s : ℕ) (bytes : List ℕ) (d : Descriptor) (ms : List Message) → spoken bytes ≡ Some (d, ms) → d.number ≡ 0
      → Move w (with_end s (says (payload_now w s bytes other_event) (w.ends s)) w)

pub data Run (w : World) : World → Type 0 where
  start : Run w w
  next : {u v : World} → Run w u → Move u v → Run w v
