-- What holds of each element of a list, or of some; what a Result holds.
use Rattle.std.proofs.Common.{◌≡◌, ℕ, true, List, [], ◌∷◌, ◌++◌, map, Some, None, Ok, Err, Option, Result, sym, ap, ◌∙◌, subst, inl, inr}
use Rattle.std.specs.List.{AllByRecursion}
use Rattle.std.proofs.ByRecursion.{All-map, All-weaker}
use Rattle.std.proofs.lemmas.Bool.{eqb-true, true≢false}
use Rattle.model.specs.Models.{is_number}
use Rattle.law.specs.Values.{Any}

abbrev IsOk : {A E : Type 0} → Result A E → Type 0
IsOk (Ok y) = Unit {0}
IsOk (Err e) = ⊥

pub err≢ok : {A E : Type 0} {e : E} {x : A} → ◌≡◌ {A = Result A E} (Err e) (Ok x) → ⊥
err≢ok p = subst IsOk (sym p) tt

-- each element

-- weakened, what holds found by itself
pub all_then : {A : Type 0} {P Q : A → Type 0} → ((a : A) → P a → Q a) → (xs : List A) → AllByRecursion P xs → AllByRecursion Q xs
all_then {A} {P} {Q} f xs p = All-weaker P Q f xs p

pub all_mapped : {A B : Type 0} (f : A → B) {P : A → Type 0} (Q : B → Type 0) → ((a : A) → P a → Q (f a)) → (xs : List A) → AllByRecursion P xs → AllByRecursion Q (map f xs)
all_mapped f {P} Q h xs p = All-map Q f xs (All-weaker P (λ a. Q (f a)) h xs p)

pub all_front : {A : Type 0} (P : A → Type 0) (xs ys : List A) → AllByRecursion P (xs ++ ys) → AllByRecursion P xs
all_front P [] ys p = tt
all_front P (x ∷ xs) ys p = (p.0, all_front P xs ys p.1)

-- some element

pub all_any : {A : Type 0} {P Q : A → Type 0} (xs : List A) → AllByRecursion P xs → Any Q xs → (a : A) × P a × Q a
all_any [] p q = absurd q
all_any (x ∷ xs) p (inl q) = (x, p.0, q)
all_any (x ∷ xs) p (inr q) = all_any xs p.1 q

pub any_map : {A : Type 0} {P Q : A → Type 0} → ((a : A) → P a → Q a) → (xs : List A) → Any P xs → Any Q xs
any_map f [] p = p
any_map f (x ∷ xs) (inl p) = inl (f x p)
any_map f (x ∷ xs) (inr p) = inr (any_map f xs p)

pub cons≢nil : {A : Type 0} {x : A} {xs : List A} → x ∷ xs ≡ [] → ⊥
cons≢nil p = subst IsCons p tt
  where
    IsCons : {B : Type 0} → List B → Type 0
    IsCons [] = ⊥
    IsCons (x ∷ xs) = Unit {0}

-- a number that is this one is there, and equals it

pub some_number : (o : Option ℕ) (n : ℕ) → is_number o n ≡ true → o ≡ None → ⊥
some_number o n e z = true≢false (sym e ∙ ap (λ p. is_number p n) z)

pub that_number : (o : Option ℕ) (n k : ℕ) → is_number o n ≡ true → o ≡ Some k → n ≡ k
that_number o n k e z = sym (eqb-true k n (sym (ap (λ p. is_number p n) z) ∙ e))
