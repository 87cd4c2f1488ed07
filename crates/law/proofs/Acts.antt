-- What a switch sends and does: what holds of it is kept.
use Rattle.std.proofs.Common.{◌≡◌, ℕ, suc, ◌<◌, ◌≤◌, Bool, true, false, cond, eqb, List, [], ◌∷◌, ◌++◌, ℤ, Some, Option, sym, refl, ap, ◌∙◌, subst, inl, inr, append-nil, arith}
use Rattle.std.specs.List.{AllByRecursion}
use Rattle.std.proofs.lemmas.Bool.{eqb-false}
use Rattle.std.proofs.ByRecursion.{All-push}
use Rattle.store.specs.declared.actor_store.Half.TheVariants.{Target}
use Rattle.store.specs.Meaning.{Known}
use Rattle.model.specs.declared.mark.Mark.{Mark}
use Rattle.model.specs.declared.mark.Mark.TheVariants.{Settled, Due, UnderWay}
use Rattle.model.specs.Models.{SwitchModel}
use Rattle.law.specs.Values.{Any, slot, spoken}
use Rattle.law.specs.World as world
use Rattle.law.specs.World.{About, Act, Display, End, Packet, Payload, acting, restarted, says, turned, with_line_from}
use Rattle.law.specs.Law.{Tells}
use Rattle.law.proofs.Brought.{slot_apart}
use Rattle.law.proofs.Elements.{all_any, all_then}
use Rattle.law.proofs.Invariant.{AboutFine, Good, Here, Lines, MarkFine, PayloadFine}
use Rattle.law.proofs.Packets.{switch_stays}

-- Payloads sent or lost, with no act.

mark_line_from : (e : End) (ps : List Payload) (values : ℤ × ℤ) (a : ℕ) (μ : Mark) → MarkFine values a e μ → MarkFine values a (with_line_from ps e) μ
mark_line_from e ps values a Settled g = g
mark_line_from e ps values a Due g = g
mark_line_from e ps values a UnderWay g = g

pub here_loses_payload : (st : Known) (o : Option SwitchModel) (e : End) (p : Payload) (rest : List Payload) → e.line_from ≡ p ∷ rest → Here st o e → Here st o (with_line_from rest e)
here_loses_payload st o e p rest q h =
    let l = h.0 in (
      record {
        passed = l.passed;
        behind = l.behind;
        ahead = l.ahead;
        coming = (subst (AllByRecursion (PayloadFine e.display.acts e.line_to.delivered)) q l.coming).1;
        taken = l.taken;
      },
      switch_stays st o e (with_line_from rest e) refl refl (mark_line_from e rest) h.1,
    )

pub here_says : (st : Known) (o : Option SwitchModel) (e : End) (p : Payload) → PayloadFine e.display.acts e.line_to.delivered p → Here st o e → Here st o (says p e)
here_says st o e p k h =
    let l = h.0 in (
      record {
        passed = l.passed;
        behind = l.behind;
        ahead = l.ahead;
        coming = All-push (PayloadFine e.display.acts e.line_to.delivered) e.line_from p l.coming k;
        taken = l.taken;
      },
      switch_stays st o e (says p e) refl refl (mark_line_from e (e.line_from ++ (p ∷ []))) h.1,
    )

-- Acts.

payload_act : (n : ℕ) (ps : List Packet) (p : Payload) → PayloadFine n ps p → PayloadFine (suc n) ps p
payload_act n ps p k = ((let x = k.0 in omega arith), go p.about k.1)
  where
    go : (x : About) → AboutFine n ps (spoken p.bytes) x → AboutFine (suc n) ps (spoken p.bytes) x
    go (world.About.answer_to j) r = r
    go (world.About.turn_of j a) r = ((let x = r.0 in omega arith), r.1, r.2)
    go world.About.other_event r = r

-- no payload taken yet tells the act that comes
fresh_turn : (e : End) (a : ℕ) → Lines e → Any (Tells a (world.Act.turn e.display.acts)) e.taken → ⊥
fresh_turn e a l t =
    let s = all_any e.taken l.taken t in
    let r = subst (AboutFine e.display.acts e.line_to.delivered (spoken s.0.bytes)) s.2 s.1.1 in
    let x : e.display.acts < e.display.acts = r.0 in
    omega arith

fresh_restart : (e : End) (a : ℕ) → Lines e → Any (Tells a (world.Act.restart e.display.acts)) e.taken → ⊥
fresh_restart e a l t =
    let s = all_any e.taken l.taken t in
    let x : s.0.acts_before ≤ e.display.acts = s.1.0 in
    let y : e.display.acts < s.0.acts_before = s.2.5 in
    omega arith

mark_acted : (e : End) (d : Display) (ps : List Payload) → ((values : ℤ × ℤ) (a : ℕ) → Good values a e → Good values a (acting d ps e)) → (values : ℤ × ℤ) (a : ℕ) (μ : Mark)
    → MarkFine values a e μ → MarkFine values a (acting d ps e) μ
mark_acted e d ps t values a Settled g = (t values a g.0, g.1)
mark_acted e d ps t values a Due g = g
mark_acted e d ps t values a UnderWay g = (g.0, g.1, g.2, λ x. t values a (g.3 x))

good_turned : (e : End) (b : ℕ) (v : ℤ) (ps : List Payload) → Lines e → (values : ℤ × ℤ) (a : ℕ) → Good values a e → Good values a (acting (turned b v e.display) ps e)
good_turned e b v ps l values a g = go (eqb b a) refl g
  where
    go : (t : Bool) → eqb b a ≡ t → Good values a e → Good values a (acting (turned b v e.display) ps e)
    go true q g = inr (world.Act.turn e.display.acts, ap (λ (t : Bool). cond t (Some (world.Act.turn e.display.acts)) (e.display.latest a)) q, fresh_turn e a l)
    go false q (inl f) =
        inl (λ half. ap (λ (t : Bool). cond t (Some v) (e.display.shown (slot half a))) (slot_apart (slot Target b) (slot half a) (eqb-false b a q)) ∙ f half)
    go false q (inr y) = inr (y.0, ap (λ (t : Bool). cond t (Some (world.Act.turn e.display.acts)) (e.display.latest a)) q ∙ y.1, y.2)

pub here_turned : (st : Known) (o : Option SwitchModel) (e : End) (b : ℕ) (v : ℤ) (p : Payload) → PayloadFine (suc e.display.acts) e.line_to.delivered p
    → Here st o e → Here st o (acting (turned b v e.display) (p ∷ []) e)
here_turned st o e b v p k h =
    let l = h.0 in (
      record {
        passed = l.passed;
        behind = l.behind;
        ahead = l.ahead;
        coming = All-push (PayloadFine (suc e.display.acts) e.line_to.delivered) e.line_from p (all_then (payload_act _ _) _ l.coming) k;
        taken = all_then (payload_act _ _) _ l.taken;
      },
      switch_stays st o e (acting (turned b v e.display) (p ∷ []) e) refl refl (mark_acted e (turned b v e.display) (p ∷ []) (good_turned e b v (p ∷ []) l)) h.1,
    )

pub here_restarted : (st : Known) (o : Option SwitchModel) (e : End) → Here st o e → Here st o (acting (restarted e.display) [] e)
here_restarted st o e h =
    let l = h.0 in (
      record {
        passed = l.passed;
        behind = l.behind;
        ahead = l.ahead;
        coming = subst (AllByRecursion (PayloadFine (suc e.display.acts) e.line_to.delivered)) (sym (append-nil e.line_from)) (all_then (payload_act _ _) _ l.coming);
        taken = all_then (payload_act _ _) _ l.taken;
      },
      switch_stays st o e (acting (restarted e.display) [] e) refl refl
          (mark_acted e (restarted e.display) [] (λ values a g. inr (world.Act.restart e.display.acts, refl, fresh_restart e a l))) h.1,
    )
