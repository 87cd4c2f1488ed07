-- Where no two items name the same actor, the first item of an actor is the only one that a touch changes.
use Rattle.std.proofs.Common.{◌≡◌, ℕ, zero, suc, ◌<◌, false, List, [], ◌∷◌, get_or, length, map, set, refl, sym, ap, ap₂, subst, ◌∙◌, not-suc-le-zero, le_of_suc-le-suc, arith}
use Rattle.std.proofs.lemmas.Bool.{cond-false, cond-true, eq-eqb, ne_eqb, or_parts}
use Rattle.model.specs.declared.item.Item.{Item}
use Rattle.model.specs.declared.mark.Change.TheVariants.{Changed}
use Rattle.model.specs.declared.mark.Mark.{Mark}
use Rattle.model.specs.Marks.{moved}
use Rattle.model.specs.Models.{is_actor, moved_item, touched_item}
use Rattle.store.specs.Lists.{lists}
use Rattle.switch.specs.Items.{actors_of, no_item, repeats}

-- no item before this place is the actor's
abbrev pub Unmet : ℕ → List Item → ℕ → Type 0
Unmet a xs i = (k : ℕ) → k < i → (get_or xs k no_item).actor ≡ a → ⊥

module _ (a : ℕ) where
  passed_over : (x : Item) → (x.actor ≡ a → ⊥) → touched_item a x ≡ x
  passed_over x n = cond-false (is_actor a x) _ _ (ne_eqb x.actor a n)

  further : (x : Item) (xs : List Item) (i : ℕ) → Unmet a (x ∷ xs) (suc i) → Unmet a xs i
  further x xs i n = λ k l. n (suc k) (omega arith)

  pub untouched : (xs : List Item) → Unmet a xs (length xs) → xs ≡ map (touched_item a) xs
  untouched [] n = refl
  untouched (x ∷ xs) n = ap₂ (λ (y : Item) (ys : List Item). y ∷ ys) (sym (passed_over x (n 0 (omega arith)))) (untouched xs (further x xs (length xs) n))

  unlisted : (xs : List Item) → lists (actors_of xs) a ≡ false → xs ≡ map (touched_item a) xs
  unlisted [] e = refl
  unlisted (x ∷ xs) e =
      let p = or_parts (is_actor a x) (lists (actors_of xs) a) e in
      ap₂ (λ (y : Item) (ys : List Item). y ∷ ys) (sym (cond-false (is_actor a x) (moved_item Changed x) x p.0)) (unlisted xs p.1)

  pub touched_here : (xs : List Item) (i : ℕ) (m : Mark) → i < length xs → repeats (actors_of xs) ≡ false → Unmet a xs i → (get_or xs i no_item).actor ≡ a
      → m ≡ moved (get_or xs i no_item).mark Changed → set xs i (record { actor = (get_or xs i no_item).actor; mark = m }) ≡ map (touched_item a) xs
  touched_here [] i m l once n e v = absurd (not-suc-le-zero l)
  touched_here (x ∷ xs) zero m l once n e v =
      let p = or_parts (lists (actors_of xs) x.actor) (repeats (actors_of xs)) once in
      ap₂ (λ (y : Item) (ys : List Item). y ∷ ys) (ap (λ (k : Mark). record { actor = x.actor; mark = k }) v ∙ sym (cond-true (is_actor a x) (moved_item Changed x) x (eq-eqb x.actor a e)))
      (unlisted xs (subst (λ b. lists (actors_of xs) b ≡ false) e p.0))
  touched_here (x ∷ xs) (suc i) m l once n e v =
      let p = or_parts (lists (actors_of xs) x.actor) (repeats (actors_of xs)) once in
      ap₂ (λ (y : Item) (ys : List Item). y ∷ ys) (sym (passed_over x (n 0 (omega arith)))) (touched_here xs i m (le_of_suc-le-suc l) p.1 (further x xs i n) e v)
