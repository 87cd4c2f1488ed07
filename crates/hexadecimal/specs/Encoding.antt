-- Bytes written as upper-case digits.
use Rattle.std.specs.Prelude.{◌≡◌, ℕ, ◌*◌, ◌/◌, ◌%◌, ◌≤◌, cond, List, [], ◌∷◌, ◌++◌, length, drop, Ok, Err, Result, nat_lt}
use Rattle.fault.specs.declared.CallFault.TheVariants.{ShortBuffer}
use Rattle.fault.specs.declared.Fault.{Fault}
use Rattle.fault.specs.declared.Fault.TheVariants.{Call}
use Rattle.hexadecimal.specs.Digit.{digit_for}
use Rattle.hexadecimal.specs.Decoding.{decode_tells, decode_leaves}

-- the high half of each byte, then the low half
unfoldable pub digits_of : List ℕ → List ℕ
digits_of [] = []
digits_of (b ∷ bytes) = digit_for (b / 16) ∷ digit_for (b % 16) ∷ digits_of bytes

-- what encoding into a buffer of that room tells
abbrev pub encode_tells : List ℕ → ℕ → Result ℕ Fault
encode_tells bytes room = cond (nat_lt room (2 * length bytes)) (Err (Call ShortBuffer 0)) (Ok (2 * length bytes))

-- what the buffer holds after it
abbrev pub encode_leaves : List ℕ → List ℕ → List ℕ
encode_leaves bytes out = cond (nat_lt (length out) (2 * length bytes)) out (digits_of bytes ++ drop (2 * length bytes) out)

-- A line of no more bytes than a payload has, read back into any buffer with room for them, gives the bytes.
abbrev pub ReadsBack : List ℕ → List ℕ → Type 0
ReadsBack line bytes = length bytes ≤ 1472 → (room : List ℕ) → length bytes ≤ length room → (decode_tells line (length room) ≡ Ok (length bytes)) × (decode_leaves line room ≡ bytes ++ drop (length bytes) room)
