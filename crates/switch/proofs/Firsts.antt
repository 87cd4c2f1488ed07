-- A list changed at the first element that passes a test, which was found by its place.
use Rattle.std.proofs.Common.{◌≡◌, ℕ, suc, ◌+◌, Bool, true, false, cond, not, List, [], ◌∷◌, length, get_or, set, Some, None, Option, refl, ap, ◌∙◌, arith, nat_lt}
use Rattle.std.specs.List.{position, position_or_len}
use Rattle.std.proofs.lemmas.Bool.{lt-ltb}

abbrev pub at_first : {X : Type 0} → (X → Bool) → (X → X) → List X → List X
at_first p f [] = []
at_first p f (x ∷ xs) = cond (p x) (f x ∷ xs) (x ∷ at_first p f xs)

-- a change at this place, or none
abbrev changed : {X : Type 0} → (X → X) → X → Option ℕ → List X → List X
changed f d (Some i) xs = set xs i (f (get_or xs i d))
changed f d None xs = xs

at_position : {X : Type 0} (p : X → Bool) (f : X → X) (d : X) (xs : List X) → changed f d (position p xs) xs ≡ at_first p f xs
at_position p f d [] = refl
at_position p f d (x ∷ xs) =
    let n = position_or_len p xs in
    elim (p x) as (λ b. changed f d (cond (nat_lt (cond (not b) (1 + n) 0) (suc (length xs))) (Some (cond (not b) (1 + n) 0)) None) (x ∷ xs) ≡ cond b (f x ∷ xs) (x ∷ at_first p f xs)) [
      | true ↦ here (nat_lt 0 (suc (length xs))) (lt-ltb 0 (suc (length xs)) (omega arith))
      | false ↦
          ap (λ k. changed f d (cond (nat_lt k (suc (length xs))) (Some k) None) (x ∷ xs)) (one_more n)
          ∙ behind (nat_lt (suc n) (suc (length xs))) (nat_lt n (length xs)) n (lt_suc n (length xs)) ∙ ap (λ l. x ∷ l) (at_position p f d xs)
    ]
  where
    one_more : (n : ℕ) → 1 + n ≡ suc n
    one_more n = omega arith

    lt_suc : (n k : ℕ) → nat_lt (suc n) (suc k) ≡ nat_lt n k
    lt_suc n k = grind arith

    here : (b : Bool) → b ≡ true → changed f d (cond b (Some 0) None) (x ∷ xs) ≡ f x ∷ xs
    here b e = ap (λ c. changed f d (cond c (Some 0) None) (x ∷ xs)) e

    behind : (a b : Bool) (n : ℕ) → a ≡ b → changed f d (cond a (Some (suc n)) None) (x ∷ xs) ≡ x ∷ changed f d (cond b (Some n) None) xs
    behind a true n e = ap (λ c. changed f d (cond c (Some (suc n)) None) (x ∷ xs)) e
    behind a false n e = ap (λ c. changed f d (cond c (Some (suc n)) None) (x ∷ xs)) e

pub change_here : {X : Type 0} (p : X → Bool) (f : X → X) (xs : List X) (i : ℕ) (y d : X) → Some i ≡ position p xs → y ≡ f (get_or xs i d) → set xs i y ≡ at_first p f xs
change_here p f xs i y d e v = ap (set xs i) v ∙ ap (λ o. changed f d o xs) e ∙ at_position p f d xs

-- d: any element
pub change_nowhere : {X : Type 0} (p : X → Bool) (f : X → X) (d : X) (xs : List X) → None ≡ position p xs → xs ≡ at_first p f xs
change_nowhere p f d xs e = ap (λ o. changed f d o xs) e ∙ at_position p f d xs
