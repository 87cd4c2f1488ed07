-- Records written behind a draft, one after another.
use Rattle.std.specs.Prelude.{◌≡◌, ℕ, ◌+◌, ◌≤◌, List, [], ◌++◌, length, take, drop}
use Rattle.std.specs.List.{flat_map}
use Rattle.packet.specs.declared.draft.Draft.{Draft}
use Rattle.packet.specs.declared.message.Record.{Record}
use Rattle.packet.specs.declared.descriptor.Descriptor.{Descriptor}
use Rattle.packet.specs.Drafts.{Drafting, size_of}
use Rattle.packet.specs.Packets.{packet_bytes, record_bytes}

-- there is room for so many bytes behind a draft, in its buffer and in a payload
abbrev pub HasRoom : Draft → List ℕ → ℕ → Type 0
HasRoom d buf more = (size_of d + more ≤ length buf) × (size_of d + more ≤ 1472)

-- The draft and its buffer have these records more, and what lies beyond them is as it was.
pub record Wrote (d : Draft) (buf : List ℕ) (more : List Record) (e : Draft) (after : List ℕ) : Type 0 where
  pub drafting : (w : Descriptor) (rs : List Record) → Drafting w rs d buf → Drafting w (rs ++ more) e after
  pub size : size_of e ≡ size_of d + length (flat_map record_bytes more)
  pub beyond : (n : ℕ) → size_of e ≤ n → drop n after ≡ drop n buf

-- A draft that has just been begun with these words.
pub record Began (w : Descriptor) (buf : List ℕ) (d : Draft) (after : List ℕ) : Type 0 where
  pub drafting : Drafting w [] d after
  pub size : size_of d ≡ 16
  pub beyond : (n : ℕ) → 16 ≤ n → drop n after ≡ drop n buf

-- A draft that has been closed: its packet is the one of its words and records.
pub record Finished (d : Draft) (buf after : List ℕ) : Type 0 where
  pub packet : (w : Descriptor) (rs : List Record) → Drafting w rs d buf → take (size_of d) after ≡ packet_bytes w rs
  pub beyond : (n : ℕ) → size_of d ≤ n → drop n after ≡ drop n buf
