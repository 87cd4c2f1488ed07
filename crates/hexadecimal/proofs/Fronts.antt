-- Where a line's first digits and a text's first line end.
use Rattle.std.proofs.Common.{◌≡◌, ℕ, zero, suc, ◌+◌, ◌<◌, ◌≤◌, Bool, true, false, Option, cond, not, eqb, ◌==◌, ◌⊎◌, List, [], ◌∷◌, ◌++◌, length, take, drop, sym, refl, ap, ◌∙◌, inl, inr, add-one, arith}
use Rattle.std.specs.List.{position, position_or_len}
use Rattle.std.specs.Option.{unwrap_or}
use Rattle.std.proofs.lemmas.List.{drop_all, length-append, take_all}
use Rattle.std.proofs.lemmas.List.Recursion.{is_position_or_len}
use Rattle.std.proofs.lemmas.List.Sums.{prefix_len-le-length}
use Rattle.std.proofs.lemmas.Bool.Decides.{nat_tests}
use Rattle.std.proofs.lemmas.Bool.{eqb-true, eqb-false}
use Rattle.hexadecimal.specs.Digit.{is_digit}
use Rattle.hexadecimal.specs.Decoding.{digits_ahead}
use Rattle.hexadecimal.specs.Lines.{line_feed, length_to, line_length, line_of, rest_of, begun_with, lines_of, Without, FirstLine, Shorter}

-- the place that `position` tells, or the whole length where it tells none
pub place_or_length : (p : ℕ → Bool) (s : List ℕ) {o : Option ℕ} {r : ℕ} → r ≡ unwrap_or o (length s) → o ≡ position p s → r ≡ position_or_len p s
place_or_length p s h e = let w = prefix_len-le-length (λ x. not (p x)) s in grind (arith, nat_tests)

-- the first separator, and the first byte that is no digit, are where `position` finds them
pub length_found : (b : ℕ) (s : List ℕ) → length_to b s ≡ position_or_len (λ c. c == b) s
unfolding length_to
length_found b s = is_position_or_len (length_to b) (λ c. c == b) refl (λ c t. grind arith) s

pub digits_found : (s : List ℕ) → digits_ahead s ≡ position_or_len (λ c. not (is_digit c)) s
unfolding digits_ahead
digits_found s = is_position_or_len digits_ahead (λ c. not (is_digit c)) refl (λ c t. grind arith) s

-- no line feed stands before the first one
plain_more : (b : ℕ) (s : List ℕ) → (b ≡ line_feed → ⊥) → Without line_feed s → Without line_feed (b ∷ s)
plain_more b s ne no_feed zero h e = ne e
plain_more b s ne no_feed (suc k) h e = no_feed k (omega arith) e

whole_more : (b : ℕ) (s line rest : List ℕ) → (s ≡ line ++ line_feed ∷ rest) ⊎ ((s ≡ line) × (rest ≡ [])) → (b ∷ s ≡ (b ∷ line) ++ line_feed ∷ rest) ⊎ ((b ∷ s ≡ b ∷ line) × (rest ≡ []))
whole_more b s line rest (inl e) = inl (ap (λ t. b ∷ t) e)
whole_more b s line rest (inr e) = inr (ap (λ t. b ∷ t) e.0, e.1)

first_by : (b : ℕ) (s : List ℕ) (n : ℕ) → FirstLine s (take n s) (drop (suc n) s) → (t : Bool) → eqb b line_feed ≡ t → FirstLine (b ∷ s) (take (cond t 0 (suc n)) (b ∷ s)) (drop (suc (cond t 0 (suc n))) (b ∷ s))
first_by b s n ih true e = record { plain = λ k h _. omega arith; whole = inl (ap (λ (x : ℕ). x ∷ s) (eqb-true b line_feed e)) }
first_by b s n ih false e = record { plain = plain_more b (take n s) (eqb-false b line_feed e) ih.plain; whole = whole_more b s (take n s) (drop (suc n) s) ih.whole }

pub first_line : (s : List ℕ) → FirstLine s (take (line_length s) s) (drop (suc (line_length s)) s)
unfolding length_to
first_line [] = record { plain = λ k h _. omega arith; whole = inr (refl, refl) }
first_line (b ∷ s) = first_by b s (line_length s) (first_line s) (eqb b line_feed) refl

pub first_at : (s : List ℕ) (n : ℕ) → n ≡ line_length s → FirstLine s (take n s) (drop (n + 1) s)
first_at s n e =
    let d : n + 1 ≡ suc (line_length s) = omega arith in rw (d, e) (first_line s)

-- a text without a line feed is one line
pub one_line : (s : List ℕ) (n : ℕ) → n ≡ line_length s → length s ≤ n → FirstLine s s []
one_line s n e long = let past : length s ≤ n + 1 = omega arith in rw take_all at (rw drop_all at (first_at s n e))

sizes : (s line rest : List ℕ) → (s ≡ line ++ line_feed ∷ rest) ⊎ ((s ≡ line) × (rest ≡ [])) → (length line + 1 + length rest ≡ length s) ⊎ ((length line ≡ length s) × (length rest ≡ 0))
sizes s line rest (inl e) = let n = ap length e ∙ length-append line (line_feed ∷ rest) in inl (omega arith)
sizes s line rest (inr e) = inr (sym (ap length e.0), ap length e.1)

falls_by : (s line rest : List ℕ) → 0 < length s → (length line + 1 + length rest ≡ length s) ⊎ ((length line ≡ length s) × (length rest ≡ 0)) → length rest < length s
falls_by s line rest some (inl e) = omega arith
falls_by s line rest some (inr e) = omega arith

pub shorter_since : (s line rest : List ℕ) → 0 < length s → FirstLine s line rest → Shorter s line rest
shorter_since s line rest some first = let n = sizes s line rest first.whole in record { falls = falls_by s line rest some n; adds = n }

-- The lines of a text that is not empty are its first line and the lines of the rest.
lines_by : (b : ℕ) (s : List ℕ) (t : Bool) → (0 < length s → lines_of s ≡ line_of s ∷ lines_of (rest_of s)) → cond t ([] ∷ lines_of s) (begun_with b (lines_of s)) ≡ take (cond t 0 (suc (line_length s))) (b ∷ s) ∷ lines_of (drop (suc (cond t 0 (suc (line_length s)))) (b ∷ s))
unfolding lines_of length_to
lines_by b s true more = refl
lines_by b [] false more = refl
lines_by b (c ∷ s) false more = rw (more (omega arith), add-one)

pub lines_step : (s : List ℕ) → 0 < length s → lines_of s ≡ line_of s ∷ lines_of (rest_of s)
unfolding lines_of length_to
lines_step [] some = absurd (omega arith)
lines_step (b ∷ s) some = rw add-one (lines_by b s (b == line_feed) (lines_step s))

pub lines_none : (s : List ℕ) → length s ≡ 0 → lines_of s ≡ []
unfolding lines_of
lines_none [] e = refl
lines_none (b ∷ s) e = absurd (omega arith)
