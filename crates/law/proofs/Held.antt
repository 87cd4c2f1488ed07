-- What a store holds after a put.
use Rattle.std.proofs.Common.{◌≡◌, ℕ, Bool, true, false, cond, ◌&&◌, eqb, ltb, List, ◌∷◌, ℤ, pos, negsuc, is_some, Some, None, Ok, Option, sym, refl, ap, ◌∙◌, subst, ap₂, arith, w16, SFits}
use Rattle.std.proofs.lemmas.Bool.{and_parts, cond_both, eq-eqb, eqb-false, eqb-true, ltb-false, ne_eqb, not_from_false, not-true}
use Rattle.store.specs.declared.actor_store.Half.{Half}
use Rattle.store.specs.declared.actor_store.Half.TheVariants.{Actual, Target}
use Rattle.store.specs.Meaning.{Known, after_put, forbidden, lawful, lawful_pair, pair_after, put_answer, refusal, replaced}
use Rattle.store.proofs.Meanings.{lawful_replaced}
use Rattle.model.specs.Composing.{values_of}
use Rattle.law.specs.Values.{Slot, half_of, held_by, last_accepted, same_half, same_slot, slot}
use Rattle.law.proofs.Elements.{err≢ok}

-- no value is forbidden
abbrev pub Lawful : Known → Type 0
Lawful st = (a : ℕ) → lawful_pair (st a) ≡ true

pub put_other : (st : Known) (a : ℕ) (half : Half) (v : ℤ) (b : ℕ) → (b ≡ a → ⊥) → after_put st a half v b ≡ st b
put_other st a half v b d = ap (λ (t : Bool). cond t (pair_after (st b) (forbidden v) half v) (st b)) (ne_eqb b a d)

known_after : (o : Option (ℤ × ℤ)) (bad : Bool) (half : Half) (v : ℤ) → is_some (pair_after o bad half v) ≡ is_some o
known_after None bad half v = refl
known_after (Some p) true half v = refl
known_after (Some p) false half v = refl

-- the known actors stay
pub put_known : (st : Known) (a : ℕ) (half : Half) (v : ℤ) (b : ℕ) → is_some (after_put st a half v b) ≡ is_some (st b)
put_known st a half v b = cond_both (eqb b a) (pair_after (st b) (forbidden v) half v) (st b) (λ o. is_some o ≡ is_some (st b)) (λ _. known_after (st b) (forbidden v) half v) (λ _. refl)

lawful_after : (o : Option (ℤ × ℤ)) (bad : Bool) (half : Half) (v : ℤ) → forbidden v ≡ bad → lawful_pair o ≡ true → lawful_pair (pair_after o bad half v) ≡ true
lawful_after None bad half v e l = l
lawful_after (Some p) true half v e l = l
lawful_after (Some p) false half v e l = lawful_replaced half v p (not_from_false (forbidden v) e) l

pub put_lawful : (st : Known) (a : ℕ) (half : Half) (v : ℤ) → Lawful st → Lawful (after_put st a half v)
put_lawful st a half v l b = cond_both (eqb b a) (pair_after (st b) (forbidden v) half v) (st b) (λ o. lawful_pair o ≡ true) (λ _. lawful_after (st b) (forbidden v) half v refl (l b)) (λ _. l b)

-- lawful values fit 16 bits
fits : (v : ℤ) → lawful v ≡ true → SFits w16 v
fits (pos n) l = let h = ltb-false 32766 n (not-true (ltb 32766 n) l) in record { sfits = omega arith }
fits (negsuc n) l = let h = ltb-false 32766 n (not-true (ltb 32766 n) l) in record { sfits = omega arith }

pub values_fit : (o : Option (ℤ × ℤ)) → lawful_pair o ≡ true → SFits w16 (values_of o).0 × SFits w16 (values_of o).1
values_fit None l = (fits (pos 0) refl, fits (pos 0) refl)
values_fit (Some p) l = let q = and_parts (lawful p.0) (lawful p.1) l in (fits p.0 q.0, fits p.1 q.1)

-- the store holds what was last accepted, or what it was opened with
abbrev pub Recalls : Known → List (Slot × ℤ) → Known → Type 0
Recalls opened past st = (k : Slot) → last_accepted opened past k ≡ held_by st k

-- a put that is granted: the actor is known, and the value is not forbidden
put_granted : (o : Option (ℤ × ℤ)) (bad : Bool) → refusal o bad ≡ Ok tt → (p : ℤ × ℤ) × (o ≡ Some p) × (bad ≡ false)
put_granted None bad e = absurd (err≢ok e)
put_granted (Some p) true e = absurd (err≢ok e)
put_granted (Some p) false e = (p, refl, refl)

half_replaced : (half other : Half) (v : ℤ) (p : ℤ × ℤ) → cond (same_half half other && true) v (half_of other p) ≡ half_of other (replaced half v p)
half_replaced Actual Actual v p = refl
half_replaced Actual Target v p = refl
half_replaced Target Actual v p = refl
half_replaced Target Target v p = refl

actor_apart : (half other : Half) (v x : ℤ) → cond (same_half half other && false) v x ≡ x
actor_apart Actual Actual v x = refl
actor_apart Actual Target v x = refl
actor_apart Target Actual v x = refl
actor_apart Target Target v x = refl

-- a granted put replaces the value of its slot, and no other
held_after : (st : Known) (a : ℕ) (half : Half) (v : ℤ) → put_answer st a v ≡ Ok tt → (k : Slot)
    → cond (same_slot (slot half a) k) v (held_by st k) ≡ held_by (after_put st a half v) k
held_after st a half v e k = go (eqb a k.actor) refl
  where
    g : (p : ℤ × ℤ) × (st a ≡ Some p) × (forbidden v ≡ false)
    g = put_granted (st a) (forbidden v) e

    here : after_put st a half v a ≡ Some (replaced half v g.0)
    here =
        ap (λ (t : Bool). cond t (pair_after (st a) (forbidden v) half v) (st a)) (eq-eqb a a refl)
        ∙ ap₂ (λ (o : Option (ℤ × ℤ)) (t : Bool). pair_after o t half v) g.1 g.2

    same : (j : Half) → cond (same_half half j && true) v (half_of j (values_of (st a))) ≡ half_of j (values_of (after_put st a half v a))
    same j =
        ap (λ (o : Option (ℤ × ℤ)). cond (same_half half j && true) v (half_of j (values_of o))) g.1
        ∙ half_replaced half j v g.0 ∙ ap (λ (o : Option (ℤ × ℤ)). half_of j (values_of o)) (sym here)

    go : (b : Bool) → eqb a k.actor ≡ b → cond (same_half half k.half && b) v (held_by st k) ≡ held_by (after_put st a half v) k
    go true q =
        subst (λ (n : ℕ). cond (same_half half k.half && true) v (half_of k.half (values_of (st n))) ≡ half_of k.half (values_of (after_put st a half v n)))
        (eqb-true a k.actor q) (same k.half)
    go false q =
        actor_apart half k.half v (held_by st k)
        ∙ ap (λ (o : Option (ℤ × ℤ)). half_of k.half (values_of o)) (sym (put_other st a half v k.actor (λ r. eqb-false a k.actor q (sym r))))

pub put_recalls : (opened : Known) (past : List (Slot × ℤ)) (st : Known) (a : ℕ) (half : Half) (v : ℤ) → put_answer st a v ≡ Ok tt
    → Recalls opened past st → Recalls opened ((slot half a, v) ∷ past) (after_put st a half v)
unfolding last_accepted
put_recalls opened past st a half v e r k = ap (cond (same_slot (slot half a) k) v) (r k) ∙ held_after st a half v e k
