-- Which values messages bring to a switch, and what it then shows.
use Rattle.std.proofs.Common.{◌≡◌, ℕ, Bool, true, false, cond, ◌&&◌, eqb, ◌⊎◌, List, [], ◌∷◌, ℤ, Some, None, Option, sym, refl, ap, ◌∙◌, subst, inl, inr, ⊎_elim}
use Rattle.std.specs.List.{AllByRecursion}
use Rattle.std.proofs.lemmas.Bool.{and_parts, cases_Bool, eq-eqb, eqb-true, ne_eqb, true≢false}
use Rattle.packet.specs.declared.message.Message.{Message}
use Rattle.store.specs.declared.actor_store.Half.{Half}
use Rattle.store.specs.declared.actor_store.Half.TheVariants.{Actual, Target}
use Rattle.law.specs.Values.{Any, Slot, brought_by, half_of, same_half, same_slot, show_all, show_one, slot}
use Rattle.law.specs.World.{Act, bring_all, bring_one}

-- Slots.

half_true : (i j : Half) → same_half i j ≡ true → i ≡ j
half_true Actual Actual e = refl
half_true Actual Target e = absurd (true≢false (sym e))
half_true Target Actual e = absurd (true≢false (sym e))
half_true Target Target e = refl

half_refl : (i : Half) → same_half i i ≡ true
half_refl Actual = refl
half_refl Target = refl

slot_true : (j k : Slot) → same_slot j k ≡ true → j ≡ k
slot_true j k e =
    let p = and_parts (same_half j.half k.half) (eqb j.actor k.actor) e in
    ap (λ (h : Half). slot h j.actor) (half_true j.half k.half p.0) ∙ ap (slot k.half) (eqb-true j.actor k.actor p.1)

slot_refl : (k : Slot) → same_slot k k ≡ true
slot_refl k = ap (λ (b : Bool). b && eqb k.actor k.actor) (half_refl k.half) ∙ eq-eqb k.actor k.actor refl

pub slot_apart : (j k : Slot) → (j.actor ≡ k.actor → ⊥) → same_slot j k ≡ false
slot_apart j k d = ⊎_elim (λ e. absurd (d (ap (λ (x : Slot). x.actor) (slot_true j k e)))) (λ e. e) (cases_Bool (same_slot j k))

-- What messages say of an actor.

-- what holds of the value that a message brings, if any; a message that brings this slot
abbrev pub Brings : (Slot → ℤ → Type 0) → Option (Slot × ℤ) → Type 0
Brings P None = Unit {0}
Brings P (Some x) = P x.0 x.1

abbrev pub BringsSlot : Slot → Option (Slot × ℤ) → Type 0
BringsSlot k None = ⊥
BringsSlot k (Some x) = x.0 ≡ k

-- no message brings actor a; those that bring it bring these values; each of its two slots is brought
abbrev pub Silent : ℕ → List Message → Type 0
Silent a ms = AllByRecursion (λ m. Brings (λ k v. k.actor ≡ a → ⊥) (brought_by m)) ms

abbrev pub Agrees : ℤ × ℤ → ℕ → List Message → Type 0
Agrees values a ms = AllByRecursion (λ m. Brings (λ k v. k.actor ≡ a → v ≡ half_of k.half values) (brought_by m)) ms

abbrev pub Full : ℕ → List Message → Type 0
Full a ms = (half : Half) → Any (λ m. BringsSlot (slot half a) (brought_by m)) ms

-- Applied messages that do not bring the actor.

show_one_silent : (a : ℕ) (o : Option (Slot × ℤ)) → Brings (λ k v. k.actor ≡ a → ⊥) o → (f : Slot → Option ℤ) (half : Half) → show_one o f (slot half a) ≡ f (slot half a)
show_one_silent a None d f half = refl
show_one_silent a (Some x) d f half = ap (λ (t : Bool). cond t (Some x.1) (f (slot half a))) (slot_apart x.0 (slot half a) d)

pub show_silent : (a : ℕ) (ms : List Message) → Silent a ms → (f : Slot → Option ℤ) (half : Half) → show_all ms f (slot half a) ≡ f (slot half a)
unfolding show_all
show_silent a [] d f half = refl
show_silent a (m ∷ ms) d f half = show_silent a ms d.1 (show_one (brought_by m) f) half ∙ show_one_silent a (brought_by m) d.0 f half

bring_one_silent : (a : ℕ) (o : Option (Slot × ℤ)) → Brings (λ k v. k.actor ≡ a → ⊥) o → (f : ℕ → Option Act) → bring_one o f a ≡ f a
bring_one_silent a None d f = refl
bring_one_silent a (Some x) d f = ap (λ (t : Bool). cond t None (f a)) (ne_eqb x.0.actor a d)

pub bring_silent : (a : ℕ) (ms : List Message) → Silent a ms → (f : ℕ → Option Act) → bring_all ms f a ≡ f a
unfolding bring_all
bring_silent a [] d f = refl
bring_silent a (m ∷ ms) d f = bring_silent a ms d.1 (bring_one (brought_by m) f) ∙ bring_one_silent a (brought_by m) d.0 f

-- Applied messages that bring these values.

module _ (values : ℤ × ℤ) (a : ℕ) where
  show_one_agrees : (o : Option (Slot × ℤ)) → Brings (λ k v. k.actor ≡ a → v ≡ half_of k.half values) o → (f : Slot → Option ℤ) (half : Half)
      → (f (slot half a) ≡ Some (half_of half values)) ⊎ BringsSlot (slot half a) o → show_one o f (slot half a) ≡ Some (half_of half values)
  show_one_agrees None g f half h = ⊎_elim (λ p. p) (λ p. absurd p) h
  show_one_agrees (Some x) g f half h = go (same_slot x.0 (slot half a)) refl h
    where
      go : (t : Bool) → same_slot x.0 (slot half a) ≡ t → (f (slot half a) ≡ Some (half_of half values)) ⊎ (x.0 ≡ slot half a)
          → cond t (Some x.1) (f (slot half a)) ≡ Some (half_of half values)
      go true e h =
          let s = slot_true x.0 (slot half a) e in
          ap Some (g (ap (λ (y : Slot). y.actor) s) ∙ ap (λ (y : Slot). half_of y.half values) s)
      go false e (inl p) = p
      go false e (inr p) = absurd (true≢false (sym (subst (λ y. same_slot x.0 y ≡ true) p (slot_refl x.0)) ∙ e))

  pub show_agrees : (ms : List Message) → Agrees values a ms → (f : Slot → Option ℤ) (half : Half)
      → (f (slot half a) ≡ Some (half_of half values)) ⊎ Any (λ m. BringsSlot (slot half a) (brought_by m)) ms → show_all ms f (slot half a) ≡ Some (half_of half values)
  unfolding show_all
  show_agrees [] g f half (inl p) = p
  show_agrees [] g f half (inr p) = absurd p
  show_agrees (m ∷ ms) g f half (inl p) = show_agrees ms g.1 (show_one (brought_by m) f) half (inl (show_one_agrees (brought_by m) g.0 f half (inl p)))
  show_agrees (m ∷ ms) g f half (inr (inl p)) = show_agrees ms g.1 (show_one (brought_by m) f) half (inl (show_one_agrees (brought_by m) g.0 f half (inr p)))
  show_agrees (m ∷ ms) g f half (inr (inr p)) = show_agrees ms g.1 (show_one (brought_by m) f) half (inr p)
