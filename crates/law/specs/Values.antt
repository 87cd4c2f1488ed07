-- Values of actors: which were accepted, and what a switch shows.
use Rattle.std.specs.Prelude.{◌≡◌, ℕ, Bool, true, false, cond, ◌&&◌, ◌⊎◌, List, [], ◌∷◌, map, ℤ, Some, None, Ok, Err, Option, Result, ◌==◌}
use Rattle.fault.specs.declared.Fault.{Fault}
use Rattle.kind.specs.Kinds.{asks_init}
use Rattle.packet.specs.declared.message.Message.{Message}
use Rattle.packet.specs.declared.message.Message.TheVariants.{Known, Unknown}
use Rattle.packet.specs.declared.message.Record.{Record}
use Rattle.packet.specs.declared.message.Record.TheVariants.{State, Control, EditValue, RealValue, Event, Temperature}
use Rattle.packet.specs.declared.descriptor.Descriptor.{Descriptor}
use Rattle.packet.specs.Reading.{reading_of}
use Rattle.store.specs.declared.actor_store.Half.{Half}
use Rattle.store.specs.declared.actor_store.Half.TheVariants.{Actual, Target}
use Rattle.store.specs.Meaning as store
use Rattle.store.specs.Meaning.{lawful}
use Rattle.model.specs.Composing.{values_of}

-- something holds of some element
abbrev pub Any : {A : Type 0} → (A → Type 0) → List A → Type 0
Any P [] = ⊥
Any P (x ∷ xs) = P x ⊎ Any P xs

-- one value of one actor: its actual value or its target
pub record Slot : Type 0 where
  pub half : Half
  pub actor : ℕ

abbrev pub slot : Half → ℕ → Slot
slot half a = record { half = half; actor = a }

abbrev pub same_half : Half → Half → Bool
same_half Actual Actual = true
same_half Actual Target = false
same_half Target Actual = false
same_half Target Target = true

abbrev pub same_slot : Slot → Slot → Bool
same_slot j k = same_half j.half k.half && j.actor == k.actor

-- the value that a store holds
abbrev pub half_of : Half → ℤ × ℤ → ℤ
half_of Actual p = p.0
half_of Target p = p.1

abbrev pub held_by : store.Known → Slot → ℤ
held_by st k = half_of k.half (values_of (st k.actor))

-- The values last accepted or opened with: a function of what was accepted, the newest first, and of the store at the hub's opening.
unfoldable pub last_accepted : store.Known → List (Slot × ℤ) → Slot → ℤ
last_accepted opened [] k = held_by opened k
last_accepted opened (x ∷ past) k = cond (same_slot x.0 k) x.1 (last_accepted opened past k)

-- What a payload says, offsets left aside: its descriptor and its messages, if it reads.
abbrev pub drop_offsets : Result (Descriptor × List (ℕ × Message)) Fault → Option (Descriptor × List Message)
drop_offsets (Ok p) = Some (p.0, map (λ (m : ℕ × Message). m.1) p.1)
drop_offsets (Err e) = None

abbrev pub spoken : List ℕ → Option (Descriptor × List Message)
spoken payload = drop_offsets (reading_of payload)

-- the values that an accepted event brings: its EditValues that are not forbidden, as targets
abbrev pub note_record : Record → List (Slot × ℤ) → List (Slot × ℤ)
note_record (State flags) past = past
note_record (Control word) past = past
note_record (EditValue a v) past = cond (lawful v) ((slot Target a, v) ∷ past) past
note_record (RealValue a v) past = past
note_record (Event a key) past = past
note_record (Temperature reading) past = past

abbrev pub note_message : Message → List (Slot × ℤ) → List (Slot × ℤ)
note_message (Known r) past = note_record r past
note_message (Unknown ident) past = past

unfoldable pub note_all : List Message → List (Slot × ℤ) → List (Slot × ℤ)
note_all [] past = past
note_all (m ∷ ms) past = note_all ms (note_message m past)

-- A switch applies a message: RealValue replaces the actual value shown, EditValue the target, and each brings its actor.

-- the slot and the value that a message brings
abbrev pub brought_by_record : Record → Option (Slot × ℤ)
brought_by_record (State flags) = None
brought_by_record (Control word) = None
brought_by_record (EditValue a v) = Some (slot Target a, v)
brought_by_record (RealValue a v) = Some (slot Actual a, v)
brought_by_record (Event a key) = None
brought_by_record (Temperature reading) = None

abbrev pub brought_by : Message → Option (Slot × ℤ)
brought_by (Known r) = brought_by_record r
brought_by (Unknown ident) = None

abbrev pub show_one : Option (Slot × ℤ) → (Slot → Option ℤ) → Slot → Option ℤ
show_one None shown k = shown k
show_one (Some x) shown k = cond (same_slot x.0 k) (Some x.1) (shown k)

unfoldable pub show_all : List Message → (Slot → Option ℤ) → Slot → Option ℤ
show_all [] shown = shown
show_all (m ∷ ms) shown = show_all ms (show_one (brought_by m) shown)

-- an EditValue of this actor that is not forbidden; a State with InitRequest
abbrev pub EditsRecord : ℕ → Record → Type 0
EditsRecord a (State flags) = ⊥
EditsRecord a (Control word) = ⊥
EditsRecord a (EditValue b v) = (b ≡ a) × (lawful v ≡ true)
EditsRecord a (RealValue b v) = ⊥
EditsRecord a (Event b key) = ⊥
EditsRecord a (Temperature reading) = ⊥

abbrev pub Edits : ℕ → Message → Type 0
Edits a (Known r) = EditsRecord a r
Edits a (Unknown ident) = ⊥

abbrev pub InitsRecord : Record → Type 0
InitsRecord (State flags) = asks_init flags ≡ true
InitsRecord (Control word) = ⊥
InitsRecord (EditValue b v) = ⊥
InitsRecord (RealValue b v) = ⊥
InitsRecord (Event b key) = ⊥
InitsRecord (Temperature reading) = ⊥

abbrev pub Inits : Message → Type 0
Inits (Known r) = InitsRecord r
Inits (Unknown ident) = ⊥
