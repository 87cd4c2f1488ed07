-- The rows of digits agree with the ranges, place by place.
use Rattle.std.proofs.Common.{◌≡◌, ℕ, zero, suc, ◌<◌, Bool, true, not, ◌&&◌, ◌||◌, eqb, ltb, ◌⊎◌, List, get_or, sym, refl, ap, ◌∙◌, inl, inr, arith}
use Rattle.std.proofs.lemmas.Bool.{and_parts, or_cases, ltb-true, eqb-true, not-true, both_ways}
use Rattle.std.proofs.lemmas.Bool.Decides.{Decides-below_and, nat_tests}
use Rattle.hexadecimal.specs.Digit.{is_digit, value_of, digit_for, capitals, smalls, StandsFor}

abbrev every : (ℕ → Bool) → ℕ → Bool
every p zero = true
every p (suc n) = p n && every p n

every_at : (p : ℕ → Bool) (n : ℕ) → every p n ≡ true → (k : ℕ) → k < n → p k ≡ true
every_at p n = (Decides-below_and p (λ k. p k ≡ true) (every p) (λ k. (λ e. e, λ e. e)) refl (λ _. refl) n).0

-- a row's place is what its digit stands for
abbrev agrees : List ℕ → ℕ → Bool
agrees row v = is_digit (get_or row v 0) && eqb (value_of (get_or row v 0)) v

row_agrees : (row : List ℕ) → every (agrees row) 16 ≡ true → (v : ℕ) → v < 16 → (is_digit (get_or row v 0) ≡ true) × (value_of (get_or row v 0) ≡ v)
row_agrees row all v h = let t = and_parts _ _ (every_at (agrees row) 16 all v h) in (t.0, eqb-true _ _ t.1)

pub stands_digit : (c v : ℕ) → StandsFor c v → (is_digit c ≡ true) × (value_of c ≡ v)
stands_digit c v (h, inl e) = let t = row_agrees capitals refl v h in (ap is_digit (sym e) ∙ t.0, ap value_of (sym e) ∙ t.1)
stands_digit c v (h, inr e) = let t = row_agrees smalls refl v h in (ap is_digit (sym e) ∙ t.0, ap value_of (sym e) ∙ t.1)

-- a digit is in one of the rows, at what it stands for
abbrev placed : ℕ → Bool
placed c = not (is_digit c) || (ltb (value_of c) 16 && (eqb (get_or capitals (value_of c) 0) c || eqb (get_or smalls (value_of c) 0) c))

digit_below : (c : ℕ) → is_digit c ≡ true → c < 103
digit_below c t = grind (arith, nat_tests)

in_row : (c v : ℕ) → (eqb (get_or capitals v 0) c ≡ true) ⊎ (eqb (get_or smalls v 0) c ≡ true) → (get_or capitals v 0 ≡ c) ⊎ (get_or smalls v 0 ≡ c)
in_row c v (inl e) = inl (eqb-true _ _ e)
in_row c v (inr e) = inr (eqb-true _ _ e)

stands_by : (c : ℕ) → is_digit c ≡ true → (not (is_digit c) ≡ true) ⊎ ((ltb (value_of c) 16 && (eqb (get_or capitals (value_of c) 0) c || eqb (get_or smalls (value_of c) 0) c)) ≡ true) → StandsFor c (value_of c)
stands_by c t (inl e) = absurd (both_ways (is_digit c) (not-true _ e) t)
stands_by c t (inr e) = let u = and_parts _ _ e in (ltb-true _ _ u.0, in_row c (value_of c) (or_cases _ _ u.1))

pub digit_stands : (c : ℕ) → is_digit c ≡ true → StandsFor c (value_of c)
digit_stands c t = stands_by c t (or_cases _ _ (every_at placed 103 refl c (digit_below c t)))

-- what is written for a half stands for it
pub written_stands : (v : ℕ) → v < 16 → StandsFor (digit_for v) v
written_stands v h = (h, inl refl)

-- and is ASCII
pub written_ascii : (v : ℕ) → v < 16 → digit_for v < 128
written_ascii v h = ltb-true _ _ (every_at (λ k. ltb (digit_for k) 128) 16 refl v h)
