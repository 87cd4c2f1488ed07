-- A line of digits of either case, and the bytes that it spells.
use Rattle.std.specs.Prelude.{◌≡◌, ℕ, ◌+◌, ◌*◌, ◌/◌, ◌%◌, ◌<◌, ◌≤◌, cond, not, List, [], ◌∷◌, ◌++◌, length, take, drop, is_ok, Ok, Err, Result, ◌==◌, nat_lt, slice_index}
use Rattle.fault.specs.declared.CallFault.TheVariants.{HexLine, ShortBuffer}
use Rattle.fault.specs.declared.Fault.{Fault}
use Rattle.fault.specs.declared.Fault.TheVariants.{Call}
use Rattle.hexadecimal.specs.Digit.{is_digit, value_of, StandsFor}

-- the longest line that is read: two digits for each byte of the longest payload
abbrev pub longest : ℕ
longest = 2944

-- how many digits the line begins with: the place of its first other byte
unfoldable pub digits_ahead : List ℕ → ℕ
digits_ahead [] = 0
digits_ahead (c ∷ line) = cond (is_digit c) (1 + digits_ahead line) 0

-- each two digits make a byte, the high half first
unfoldable pub bytes_of : List ℕ → List ℕ
bytes_of [] = []
bytes_of (a ∷ []) = []
bytes_of (a ∷ b ∷ line) = (value_of a * 16 + value_of b) ∷ bytes_of line

-- what decoding a line into a buffer of that room tells: the first failing check, or how many bytes
abbrev pub decode_tells : List ℕ → ℕ → Result ℕ Fault
decode_tells line room =
    cond (nat_lt longest (length line)) (Err (Call HexLine longest))
    (cond (nat_lt (digits_ahead line) (length line)) (Err (Call HexLine (digits_ahead line)))
    (cond (not (length line % 2 == 0)) (Err (Call HexLine (length line)))
    (cond (nat_lt room (length line / 2)) (Err (Call ShortBuffer 0))
    (Ok (length line / 2)))))

-- what the buffer holds after it: the bytes before what stood beyond them, and after a refusal what it held
abbrev pub decode_leaves : List ℕ → List ℕ → List ℕ
decode_leaves line out = cond (is_ok (decode_tells line (length out))) (bytes_of line ++ drop (length line / 2) out) out

-- A line spells bytes if it has two digits for each of them in order, the high half first, of either case.
pub data Spells : List ℕ → List ℕ → Type 0 where
  nothing : Spells [] []
  byte : {a b high low : ℕ} {line bytes : List ℕ} → StandsFor a high → StandsFor b low → Spells line bytes → Spells (a ∷ b ∷ line) ((high * 16 + low) ∷ bytes)

-- What a reading of `line` tells and leaves in a buffer, in terms of spelling alone.
pub record Faithful (line before : List ℕ) (told : Result ℕ Fault) (after : List ℕ) : Type 0 where
  -- what is accepted is no longer than allowed, and spells the bytes now at the buffer's start
  pub sound : (n : ℕ) → told ≡ Ok n → (length line ≤ longest) × (n ≤ length before) × Spells line (take n after) × (drop n after ≡ drop n before)
  -- a line that spells bytes for which there is room is accepted, and gives these bytes
  pub complete : (bytes : List ℕ) → Spells line bytes → length line ≤ longest → length bytes ≤ length before → (told ≡ Ok (length bytes)) × (after ≡ bytes ++ drop (length bytes) before)
  -- no line spells two byte strings
  pub one : (xs ys : List ℕ) → Spells line xs → Spells line ys → xs ≡ ys
  -- a refusal leaves the buffer
  pub kept : (f : Fault) → told ≡ Err f → after ≡ before
  -- a place inside the line is that of its first byte that stands for nothing
  pub place : (p : ℕ) → told ≡ Err (Call HexLine p) → p < length line → length line ≤ longest → ((v : ℕ) → StandsFor (slice_index line p) v → ⊥) × ((k : ℕ) → k < p → (v : ℕ) × StandsFor (slice_index line k) v)
  -- the line's own length is told as the place only where all of its bytes are digits, and one has no partner
  pub odd : told ≡ Err (Call HexLine (length line)) → length line ≤ longest → (length line % 2 ≡ 1) × ((k : ℕ) → k < length line → (v : ℕ) × StandsFor (slice_index line k) v)
