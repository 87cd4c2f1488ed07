-- What a put leaves, for any store: shared by the table and the image.
use Rattle.std.proofs.Common.{◌≡◌, ℕ, true, false, cond, eqb, ℤ, Some, sym, refl, ◌∙◌, ap₂}
use mathlib.Core.Path.{fun_ext}
use Rattle.std.proofs.lemmas.Bool.{eqb-true, eq-eqb, cond_both, cond-true, cond-false, and_parts, and_from}
use Rattle.store.specs.Meaning.{Known, pair_after, after_put, forbidden, lawful, lawful_pair, replaced}
use Rattle.store.specs.declared.actor_store.Half.{Half}
use Rattle.store.specs.declared.actor_store.Half.TheVariants.{Actual, Target}

-- a lawful value in either half leaves a lawful pair
pub lawful_replaced : (h : Half) (v : ℤ) (p : ℤ × ℤ) → lawful v ≡ true → lawful_pair (Some p) ≡ true → lawful_pair (Some (replaced h v p)) ≡ true
lawful_replaced Actual v p l o = and_from (lawful v) (lawful p.1) l (and_parts (lawful p.0) (lawful p.1) o).1
lawful_replaced Target v p l o = and_from (lawful p.0) (lawful v) (and_parts (lawful p.0) (lawful p.1) o).0 l

-- a map with one pair replaced, and the others as they were, is the one after a put
pub after_put_lem : (m : Known) (a : ℕ) (h : Half) (v : ℤ) (old : ℤ × ℤ) → m a ≡ Some old → forbidden v ≡ false → (m' : Known) → ((k : ℕ) → m' k ≡ cond (eqb k a) (Some (replaced h v old)) (m k)) → m' ≡ after_put m a h v
after_put_lem m a h v old e f m' g = fun_ext (λ k. cond_both (eqb k a) _ _ (λ x. m' k ≡ x) (λ t. rw (eqb-true k a t) here) (λ t. g k ∙ cond-false _ _ _ t))
  where
    here : m' a ≡ pair_after (m a) (forbidden v) h v
    here = g a ∙ cond-true (eqb a a) _ _ (eq-eqb a a refl) ∙ sym (ap₂ (λ o b. pair_after o b h v) e f)
