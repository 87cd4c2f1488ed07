-- The grammar of payloads, written apart from the reader: which bytes spell which messages.
use Rattle.std.specs.Prelude.{◌≡◌, ℕ, ◌+◌, ◌*◌, ◌≤◌, List, [], ◌∷◌, ◌++◌, length, drop, Some, None, Ok, ◌≢◌, bit_and}
use Rattle.std.specs.Int.{w16}
use Rattle.std.proofs.Common.{to_z}
use Rattle.kind.specs.Layout.{word}
use Rattle.packet.specs.declared.message.Record.TheVariants.{State, Control, EditValue, RealValue, Event, Temperature}
use Rattle.packet.specs.declared.message.Message.{Message}
use Rattle.packet.specs.declared.message.Message.TheVariants.{Known, Unknown}
use Rattle.packet.specs.declared.descriptor.Descriptor.{Descriptor}
use Rattle.packet.specs.Reading.{reading_of}
use Rattle.packet.specs.Words.{major}

-- a number that is none of the six MessageIDs
pub record NoKind (ident : ℕ) : Type 0 where
  pub state : ident ≡ 0x01 → ⊥
  pub control : ident ≡ 0x21 → ⊥
  pub edit_value : ident ≡ 0x42 → ⊥
  pub real_value : ident ≡ 0x43 → ⊥
  pub event : ident ≡ 0x51 → ⊥
  pub temperature : ident ≡ 0x71 → ⊥

-- The bytes of one message (MessageLength, MessageID, the ActorID's low and high byte, data), and what they say.
-- Reserved bytes and bits outside a mask may be anything.
pub data Says : List ℕ → Message → Type 0 where
  state : (a b c d : ℕ) → Says (8 ∷ 0x01 ∷ 0 ∷ 0 ∷ a ∷ b ∷ c ∷ d ∷ []) (Known (State (bit_and (a + b * 256 + c * 65536 + d * 16777216) 0x1F0F18FF)))
  control : (a b c d : ℕ) → Says (8 ∷ 0x21 ∷ 0 ∷ 0 ∷ a ∷ b ∷ c ∷ d ∷ []) (Known (Control (bit_and (a + b * 256 + c * 65536 + d * 16777216) 0x1F00FFBF)))
  edit_value : (lo hi a b : ℕ) → (lo + hi * 256 ≢ 0) → Says (6 ∷ 0x42 ∷ lo ∷ hi ∷ a ∷ b ∷ []) (Known (EditValue (lo + hi * 256) (to_z w16 (a + b * 256))))
  real_value : (lo hi a b : ℕ) → (lo + hi * 256 ≢ 0) → Says (6 ∷ 0x43 ∷ lo ∷ hi ∷ a ∷ b ∷ []) (Known (RealValue (lo + hi * 256) (to_z w16 (a + b * 256))))
  event : (lo hi key reserved : ℕ) → (lo + hi * 256 ≢ 0) → Says (6 ∷ 0x51 ∷ lo ∷ hi ∷ key ∷ reserved ∷ []) (Known (Event (lo + hi * 256) (bit_and key 0x0F)))
  temperature : (a b reserved : ℕ) → Says (8 ∷ 0x71 ∷ 0 ∷ 0 ∷ a ∷ b ∷ 1 ∷ reserved ∷ []) (Known (Temperature (Some (to_z w16 (a + b * 256)))))
  absent : (a b valid reserved : ℕ) → (valid ≢ 1) → Says (8 ∷ 0x71 ∷ 0 ∷ 0 ∷ a ∷ b ∷ valid ∷ reserved ∷ []) (Known (Temperature None))
  unknown : (ident lo hi : ℕ) (content : List ℕ) → NoKind ident → Says ((4 + length content) ∷ ident ∷ lo ∷ hi ∷ content) (Unknown ident)

-- Messages without gaps, each with the offset of its first byte.
pub data Lists : ℕ → List ℕ → List (ℕ × Message) → Type 0 where
  end : (place : ℕ) → Lists place [] []
  next : (place : ℕ) (bytes rest : List ℕ) (m : Message) (ms : List (ℕ × Message)) → Says bytes m → Lists (place + length bytes) rest ms
      → Lists place (bytes ++ rest) ((place, m) ∷ ms)

-- A payload spells a descriptor and a message list.
pub record Spells (s : List ℕ) (d : Descriptor) (ms : List (ℕ × Message)) : Type 0 where
  pub least : 16 ≤ length s
  pub most : length s ≤ 1472
  pub frame_id : word s 0 ≡ 0x8601
  pub frame_length : word s 2 ≡ length s
  pub frame_version : word s 4 ≡ d.version
  pub major_version : major d.version ≡ 2
  pub package_id : word s 6 ≡ d.number
  pub project_id : word s 8 ≡ d.project
  pub firmware_version : word s 10 ≡ d.firmware
  pub switch_id : word s 12 ≡ d.switch
  pub design_id : word s 14 ≡ d.design
  pub messages : Lists 16 (drop 16 s) ms

-- Reading is the grammar: what the reader tells, the payload spells; what a payload spells, the reader tells; and no payload spells two lists.
pub record Grammar (s : List ℕ) : Type 0 where
  pub spelled : (d : Descriptor) (ms : List (ℕ × Message)) → reading_of s ≡ Ok (d, ms) → Spells s d ms
  pub accepted : (d : Descriptor) (ms : List (ℕ × Message)) → Spells s d ms → reading_of s ≡ Ok (d, ms)
  pub unique : (d e : Descriptor) (ms ns : List (ℕ × Message)) → Spells s d ms → Spells s e ns → (d ≡ e) × (ms ≡ ns)
