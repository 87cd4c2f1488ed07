-- Drafts: what each step answers, and what it leaves in the buffer.
use Rattle.std.specs.Prelude.{◌≡◌, ℕ, ◌+◌, ◌^◌, ◌<◌, Bool, cond, not, ◌||◌, List, [], ◌∷◌, ◌++◌, length, take, drop, Ok, Err, Result, FitsSigned, ◌==◌, bit_and, nat_lt}
use Rattle.std.specs.Int.{w16}
use Rattle.fault.specs.declared.CallFault.TheVariants.{ShortBuffer}
use Rattle.fault.specs.declared.Fault.{Fault}
use Rattle.fault.specs.declared.Fault.TheVariants as fault
use Rattle.fault.specs.declared.FrameFault.TheVariants.{MajorVersion}
use Rattle.fault.specs.declared.MessageFault.TheVariants.{ActorRule}
use Rattle.kind.specs.Kinds.{ReadingFits, control, edit_value, event, real_value, state, temperature}
use Rattle.kind.specs.Layout as kind
use Rattle.kind.specs.Layout.{Layout, message_of, word_bytes}
use Rattle.packet.specs.declared.draft.Closed.{Closed}
use Rattle.packet.specs.declared.draft.Draft.{Draft}
use Rattle.packet.specs.declared.message.Message.{Message}
use Rattle.packet.specs.declared.message.Message.TheVariants.{Known}
use Rattle.packet.specs.declared.message.Record.{Record}
use Rattle.packet.specs.declared.message.Record.TheVariants.{State, Control, EditValue, RealValue, Event, Temperature}
use Rattle.packet.specs.declared.descriptor.Descriptor.{Descriptor}
use Rattle.packet.specs.Packets.{head_bytes, packet_bytes}
use Rattle.packet.specs.Reading.{reading_of}
use Rattle.packet.specs.Words.{major}

-- ys over the bytes of xs from a place on; the others stay
abbrev pub over : List ℕ → ℕ → List ℕ → List ℕ
over xs at ys = take at xs ++ (ys ++ drop (at + length ys) xs)

-- the bytes written so far: the descriptor and the messages behind it
abbrev pub size_of : Draft → ℕ
size_of d = 16 + d.behind

-- no room for so many bytes more: past a payload's most, or past the buffer
abbrev pub full : Draft → ℕ → List ℕ → Bool
full d more buf = nat_lt 1472 (size_of d + more) || nat_lt (length buf) (size_of d + more)

-- the sixteen bytes of a descriptor whose FrameLength is not filled in yet
abbrev pub open_bytes : Descriptor → List ℕ
open_bytes w = head_bytes w 0

-- Beginning: the major version first, then the room.
abbrev pub begun : Descriptor → List ℕ → Result Draft Fault
begun w buf =
    cond (not (major w.version == 2)) (Err (fault.Frame MajorVersion 4))
    (cond (nat_lt (length buf) 16) (Err (fault.Call ShortBuffer 0))
    (Ok (record { behind = 0 })))

abbrev pub begun_bytes : Descriptor → List ℕ → List ℕ
begun_bytes w buf =
    cond (not (major w.version == 2)) buf
    (cond (nat_lt (length buf) 16) buf
    (over buf 0 (open_bytes w)))

-- Adding a message of a kind: the actor rule first, then the room. A refusal gives the draft back.
abbrev pub appended : {R : Type 0} → Layout R → Draft → ℕ → List ℕ → Result Draft (Fault × Draft)
appended k d actor buf =
    cond (not (k.admits actor)) (Err (fault.Message ActorRule 0, d))
    (cond (full d k.size buf) (Err (fault.Call ShortBuffer 0, d))
    (Ok (record { behind = d.behind + k.size })))

abbrev pub appended_bytes : {R : Type 0} → Layout R → Draft → ℕ → R → List ℕ → List ℕ
appended_bytes k d actor r buf =
    cond (not (k.admits actor)) buf
    (cond (full d k.size buf) buf
    (over buf (size_of d) (message_of k actor r)))

-- At a place of a buffer, a message reads back as this actor and this record, masked.
abbrev pub StandsAt : {R : Type 0} → Layout R → ℕ → R → ℕ → List ℕ → Type 0
StandsAt k actor r at buf = kind.ReadsBack k actor r (drop at buf)

-- Adding a record, by its kind.
abbrev pub added : Record → Draft → List ℕ → Result Draft (Fault × Draft)
added (State bits) d buf = appended state d 0 buf
added (Control bits) d buf = appended control d 0 buf
added (EditValue actor target) d buf = appended edit_value d actor buf
added (RealValue actor actual) d buf = appended real_value d actor buf
added (Event actor key) d buf = appended event d actor buf
added (Temperature reading) d buf = appended temperature d 0 buf

abbrev pub added_bytes : Record → Draft → List ℕ → List ℕ
added_bytes (State bits) d buf = appended_bytes state d 0 bits buf
added_bytes (Control bits) d buf = appended_bytes control d 0 bits buf
added_bytes (EditValue actor target) d buf = appended_bytes edit_value d actor target buf
added_bytes (RealValue actor actual) d buf = appended_bytes real_value d actor actual buf
added_bytes (Event actor key) d buf = appended_bytes event d actor key buf
added_bytes (Temperature reading) d buf = appended_bytes temperature d 0 reading buf

-- Closing fills in FrameLength.
abbrev pub closed : Draft → List ℕ → Result Closed (Fault × Draft)
closed d buf = cond (full d 0 buf) (Err (fault.Call ShortBuffer 0, d)) (Ok (size_of d))

abbrev pub closed_bytes : Draft → List ℕ → List ℕ
closed_bytes d buf = cond (full d 0 buf) buf (over buf 2 (word_bytes (size_of d)))

-- words and records that their Rust types can hold
pub record WordsFit (w : Descriptor) : Type 0 where
  pub version : w.version < 2 ^ 16
  pub number : w.number < 2 ^ 16
  pub project : w.project < 2 ^ 16
  pub firmware : w.firmware < 2 ^ 16
  pub switch : w.switch < 2 ^ 16
  pub design : w.design < 2 ^ 16

abbrev pub RecordFits : Record → Type 0
RecordFits (State bits) = Unit {0}
RecordFits (Control bits) = Unit {0}
RecordFits (EditValue actor target) = (actor < 2 ^ 16) × FitsSigned w16 target
RecordFits (RealValue actor actual) = (actor < 2 ^ 16) × FitsSigned w16 actual
RecordFits (Event actor key) = actor < 2 ^ 16
RecordFits (Temperature reading) = ReadingFits reading

-- A draft over a buffer that only its own calls have touched: begun with these words, and given these records in this order.
pub data Drafting : Descriptor → List Record → Draft → List ℕ → Type 0 where
  begins : (w : Descriptor) (buf : List ℕ) (d : Draft) → WordsFit w → begun w buf ≡ Ok d → Drafting w [] d (begun_bytes w buf)
  adds : (w : Descriptor) (rs : List Record) (d : Draft) (buf : List ℕ) (r : Record) (e : Draft) → Drafting w rs d buf → RecordFits r → added r d buf ≡ Ok e
      → Drafting w (rs ++ (r ∷ [])) e (added_bytes r d buf)

-- what is left of a record on the wire: bits outside its mask are dropped
abbrev pub masked : Record → Record
masked (State bits) = State (bit_and bits 0x1F0F18FF)
masked (Control bits) = Control (bit_and bits 0x1F00FFBF)
masked (EditValue actor target) = EditValue actor target
masked (RealValue actor actual) = RealValue actor actual
masked (Event actor key) = Event actor (bit_and key 0x0F)
masked (Temperature reading) = Temperature reading

-- the MessageLength of its kind
abbrev pub length_of : Record → ℕ
length_of (State bits) = 8
length_of (Control bits) = 8
length_of (EditValue actor target) = 6
length_of (RealValue actor actual) = 6
length_of (Event actor key) = 6
length_of (Temperature reading) = 8

-- the records as the messages of a packet, without gaps from an offset on
abbrev pub laid_out : ℕ → List Record → List (ℕ × Message)
laid_out place [] = []
laid_out place (r ∷ rs) = (place, Known (masked r)) ∷ laid_out (place + length_of r) rs

-- Whatever words the draft was begun with and whatever records it was given: the packet is theirs, and reads back as these words and all these
-- records, in order, masked.
abbrev pub ReadsBack : Draft → List ℕ → List ℕ → Type 0
ReadsBack d buf packet = (w : Descriptor) (rs : List Record) → Drafting w rs d buf → (packet ≡ packet_bytes w rs) × (reading_of packet ≡ Ok (w, laid_out 16 rs))
