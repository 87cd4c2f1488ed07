-- Lines and digits place by place, in terms of the places alone.
use Rattle.std.proofs.Common.{◌≡◌, ℕ, zero, suc, ◌+◌, ◌*◌, ◌/◌, ◌%◌, ◌<◌, ◌≤◌, List, [], ◌∷◌, length, get_or, drop, sym, refl, ap, ◌∙◌, ap₂, arith}
use Rattle.std.proofs.lemmas.List.{at_drop_more, at_drop_all}
use Rattle.std.proofs.lemmas.Bool.{cond-true, cond-false, eq-eqb, ne_eqb}
use Rattle.hexadecimal.specs.Digit.{value_of, digit_for}
use Rattle.hexadecimal.specs.Decoding.{bytes_of}
use Rattle.hexadecimal.specs.Encoding.{digits_of}
use Rattle.hexadecimal.specs.Lines.{line_feed, length_to, line_length}

pub length_more : (b : ℕ) (s : List ℕ) (i : ℕ) → i < length s → (get_or s i 0 ≡ b → ⊥) → length_to b (drop i s) ≡ suc (length_to b (drop (i + 1) s))
unfolding length_to
length_more b s i h ne = at_drop_more (length_to b) s i 0 h ∙ cond-false _ _ _ (ne_eqb _ _ ne)

pub length_stop : (b : ℕ) (s : List ℕ) (i : ℕ) → i < length s → get_or s i 0 ≡ b → length_to b (drop i s) ≡ 0
unfolding length_to
length_stop b s i h e = at_drop_more (length_to b) s i 0 h ∙ cond-true _ _ _ (eq-eqb _ _ e)

pub length_all : (b : ℕ) (s : List ℕ) (i : ℕ) → length s ≤ i → length_to b (drop i s) ≡ 0
unfolding length_to
length_all b s i h = at_drop_all (length_to b) s i h

pub line_ends : (s : List ℕ) → length_to line_feed s ≡ line_length s
line_ends s = refl

pub get_or_bytes_of : (s : List ℕ) (i : ℕ) → 2 * i + 1 < length s → get_or (bytes_of s) i 0 ≡ value_of (get_or s (2 * i) 0) * 16 + value_of (get_or s (2 * i + 1) 0)
unfolding bytes_of
get_or_bytes_of [] i h = absurd (omega arith)
get_or_bytes_of (a ∷ []) i h = absurd (omega arith)
get_or_bytes_of (a ∷ b ∷ s) zero h = refl
get_or_bytes_of (a ∷ b ∷ s) (suc i) h =
    let x : 2 * suc i ≡ suc (suc (2 * i)) = omega arith in
    let y : 2 * suc i + 1 ≡ suc (suc (2 * i + 1)) = omega arith in
    get_or_bytes_of s i (omega arith) ∙ ap₂ (λ (u v : ℕ). value_of (get_or (a ∷ b ∷ s) u 0) * 16 + value_of (get_or (a ∷ b ∷ s) v 0)) (sym x) (sym y)

pub get_or_digits_of_high : (s : List ℕ) (i : ℕ) → i < length s → get_or (digits_of s) (2 * i) 0 ≡ digit_for (get_or s i 0 / 16)
unfolding digits_of
get_or_digits_of_high [] i h = absurd (omega arith)
get_or_digits_of_high (b ∷ s) zero h = refl
get_or_digits_of_high (b ∷ s) (suc i) h =
    let x : 2 * suc i ≡ suc (suc (2 * i)) = omega arith in
    ap (λ (u : ℕ). get_or (digits_of (b ∷ s)) u 0) x ∙ get_or_digits_of_high s i (omega arith)

pub get_or_digits_of_low : (s : List ℕ) (i : ℕ) → i < length s → get_or (digits_of s) (2 * i + 1) 0 ≡ digit_for (get_or s i 0 % 16)
unfolding digits_of
get_or_digits_of_low [] i h = absurd (omega arith)
get_or_digits_of_low (b ∷ s) zero h = refl
get_or_digits_of_low (b ∷ s) (suc i) h =
    let x : 2 * suc i + 1 ≡ suc (suc (2 * i + 1)) = omega arith in
    ap (λ (u : ℕ). get_or (digits_of (b ∷ s)) u 0) x ∙ get_or_digits_of_low s i (omega arith)
