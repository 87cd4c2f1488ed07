-- Where a ControlBlock keeps the values of its actors, and which blocks are lawful.
use Rattle.std.specs.Prelude.{ℕ, zero, suc, ◌+◌, ◌-◌, ◌*◌, ◌/◌, ◌%◌, ◌<◌, ◌≤◌, Bool, true, cond, ◌&&◌, List, length, take, ℤ, Some, None, Ok, Err, Result, ◌==◌, nat_le, slice_index, slice_set}
use Rattle.std.specs.Int.{w16}
use Rattle.std.proofs.Common.{to_z, of_z}
use Rattle.fault.specs.declared.Fault.{Fault}
use Rattle.fault.specs.declared.Fault.TheVariants.{Store}
use Rattle.fault.specs.declared.StoreFault.TheVariants as store
use Rattle.kind.specs.Layout.{word}
use Rattle.store.specs.Meaning.{Known, lawful_pair, put_answer, unknown_actor}
use Rattle.store.specs.declared.actor_store.Half.{Half}
use Rattle.store.specs.declared.actor_store.Half.TheVariants.{Actual, Target}

-- the signed word at a place
abbrev pub signed_at : List ℕ → ℕ → ℤ
signed_at bytes at = to_z w16 (word bytes at)

-- Page.Count
abbrev pub page_count : List ℕ → ℕ
page_count bytes = slice_index bytes 25

-- the length of a block of n pages
abbrev pub length_of : ℕ → ℕ
length_of n = 128 + 28 * n

-- four actors to a page, counted from 1
abbrev pub page_of : ℕ → ℕ
page_of i = (i - 1) / 4

abbrev pub field_of : ℕ → ℕ
field_of i = i - 1 - 4 * page_of i

-- where a value of actor i starts: the target stands two bytes after the actual value
abbrev pub place_of : Half → ℕ → ℕ
place_of Actual i = 132 + 28 * page_of i + 4 * field_of i
place_of Target i = 132 + 28 * page_of i + 4 * field_of i + 2

-- a slice that is long enough for both values of actor i
pub record Holds (bytes : List ℕ) (i : ℕ) : Type 0 where
  pub counted : 1 ≤ i
  pub inside : place_of Target i + 1 < length bytes

abbrev pub pair_at : List ℕ → ℕ → ℤ × ℤ
pair_at bytes i = (signed_at bytes (place_of Actual i), signed_at bytes (place_of Target i))

-- a block of n pages has actors 1 to 4 × n
abbrev pub has_actor : ℕ → ℕ → Bool
has_actor n i = nat_le 1 i && nat_le i (4 * n)

abbrev pub actor_answer : List ℕ → ℕ → Result Unit Fault
actor_answer bytes i = cond (has_actor (page_count bytes) i) (Ok tt) (Err unknown_actor)

-- what a block means
abbrev pub actors_of : List ℕ → Known
actors_of bytes i = cond (has_actor (page_count bytes) i) (Some (pair_at bytes i)) None

-- no value of the actors 1 to k is forbidden
abbrev pub lawful_values : List ℕ → ℕ → Bool
lawful_values bytes zero = true
lawful_values bytes (suc k) = lawful_pair (Some (pair_at bytes (suc k))) && lawful_values bytes k

-- FrameID
abbrev pub right_frame : List ℕ → Bool
right_frame bytes = word bytes 0 == 0x7501

-- 1 to 16 pages
abbrev pub right_count : List ℕ → Bool
right_count bytes = nat_le 1 (page_count bytes) && nat_le (page_count bytes) 16

-- the slice's length and FrameLength are those of its pages
abbrev pub right_length : List ℕ → Bool
right_length bytes = length bytes == length_of (page_count bytes) && word bytes 2 == length_of (page_count bytes)

abbrev pub lawful_frame : List ℕ → Bool
lawful_frame bytes = right_frame bytes && (right_count bytes && right_length bytes)

abbrev pub lawful_block : List ℕ → Bool
lawful_block bytes = lawful_frame bytes && lawful_values bytes (4 * page_count bytes)

-- what opening over a slice answers, as the bytes that the image then keeps
abbrev pub image_over : List ℕ → Result (List ℕ) Fault
image_over bytes = cond (lawful_block bytes) (Ok bytes) (Err (Store store.Image 0))

-- the block at the front of its room
abbrev pub block_in : List ℕ → List ℕ
block_in room = take (length_of (page_count room)) room

-- two bytes replaced by those of a value, low byte first
abbrev pub written : List ℕ → ℕ → ℤ → List ℕ
written bytes at v = slice_set (slice_set bytes at (of_z w16 v % 256)) (at + 1) (of_z w16 v / 256 % 256)

abbrev pub written_if : Result Unit Fault → List ℕ → ℕ → ℤ → List ℕ
written_if (Ok _) bytes at v = written bytes at v
written_if (Err _) bytes at v = bytes

-- a put replaces the two bytes of its value and no other; refused, it replaces none
abbrev pub block_after : List ℕ → ℕ → Half → ℤ → List ℕ
block_after bytes i h v = written_if (put_answer (actors_of bytes) i v) bytes (place_of h i) v
