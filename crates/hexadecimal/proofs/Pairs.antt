-- The bytes of a line and the digits of bytes, place by place.
use Rattle.std.proofs.Common.{◌≡◌, ℕ, zero, suc, ◌+◌, ◌*◌, ◌/◌, ◌%◌, ◌<◌, List, [], ◌∷◌, ◌++◌, length, get_or, take, drop, set, refl, ap, ◌∙◌, add-one, arith}
use Rattle.std.proofs.lemmas.List.{take_more}
use Rattle.std.specs.Simd.{first_chunks}
use Rattle.hexadecimal.specs.Digit.{value_of, digit_for}
use Rattle.hexadecimal.specs.Decoding.{bytes_of}
use Rattle.hexadecimal.specs.Encoding.{digits_of}

pub length_bytes_of : (s : List ℕ) (n : ℕ) → length s ≡ 2 * n → length (bytes_of s) ≡ n
unfolding bytes_of
length_bytes_of [] n h = omega arith
length_bytes_of (a ∷ []) n h = absurd (omega arith)
length_bytes_of (a ∷ b ∷ s) zero h = absurd (omega arith)
length_bytes_of (a ∷ b ∷ s) (suc n) h = ap suc (length_bytes_of s n (omega arith))

pub byte_of_pair : (s : List ℕ) (n i : ℕ) → length s ≡ 2 * n → i < n → get_or (bytes_of s) i 0 ≡ value_of (get_or (get_or (first_chunks 2 n s) i []) 0 0) * 16 + value_of (get_or (get_or (first_chunks 2 n s) i []) 1 0)
unfolding bytes_of
byte_of_pair [] n i even h = absurd (omega arith)
byte_of_pair (a ∷ []) n i even h = absurd (omega arith)
byte_of_pair (a ∷ b ∷ s) zero i even h = absurd (omega arith)
byte_of_pair (a ∷ b ∷ s) (suc n) zero even h = refl
byte_of_pair (a ∷ b ∷ s) (suc n) (suc i) even h = byte_of_pair s n i (omega arith) (omega arith)

pub length_digits_of : (s : List ℕ) → length (digits_of s) ≡ 2 * length s
unfolding digits_of
length_digits_of [] = refl
length_digits_of (b ∷ s) = let ih = length_digits_of s in omega arith

-- one more byte, two more digits
pub digits_append : (s t : List ℕ) → digits_of (s ++ t) ≡ digits_of s ++ digits_of t
unfolding digits_of
digits_append [] t = refl
digits_append (b ∷ s) t = ap (λ ds. digit_for (b / 16) ∷ digit_for (b % 16) ∷ ds) (digits_append s t)

pub digits_more : (s : List ℕ) (i : ℕ) → i < length s → digits_of (take (i + 1) s) ≡ digits_of (take i s) ++ digit_for (get_or s i 0 / 16) ∷ digit_for (get_or s i 0 % 16) ∷ []
unfolding digits_of
digits_more s i h = ap digits_of (take_more s i 0 h) ∙ digits_append (take i s) (get_or s i 0 ∷ [])

-- two writes behind the digits so far
pub both_written : (ds out : List ℕ) (n m high low : ℕ) → length ds ≡ n → m ≡ n + 1 → m < length out → set (set (ds ++ drop n out) n high) m low ≡ (ds ++ high ∷ low ∷ []) ++ drop (m + 1) out
both_written ds [] n m high low e f h = absurd (omega arith)
both_written ds (x ∷ []) n m high low e f h = absurd (omega arith)
both_written [] (x ∷ y ∷ out) zero m high low e f h = rw f refl
both_written [] (x ∷ y ∷ out) (suc n) m high low e f h = absurd (omega arith)
both_written (d ∷ ds) (x ∷ out) zero m high low e f h = absurd (omega arith)
both_written (d ∷ ds) (x ∷ out) (suc n) zero high low e f h = absurd (omega arith)
both_written (d ∷ ds) (x ∷ out) (suc n) (suc m) high low e f h = rw add-one (ap (λ (l : List ℕ). d ∷ l) (both_written ds out n m high low (omega arith) (omega arith) (omega arith) ∙ rw add-one refl))
