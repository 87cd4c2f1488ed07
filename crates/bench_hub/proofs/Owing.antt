-- A kept slip stays owed, whatever is called.
use Rattle.std.proofs.Common.{◌≡◌, ℕ, Bool, true, false, cond, List, take, is_ok, Some, None, Ok, Err, Option, sym, refl, ap, ◌∙◌, subst, ⊎_elim}
use Rattle.std.specs.Option.{ForSome, option_map}
use Rattle.std.proofs.lemmas.Bool.{cases_eq, eq-eqb, true≢false}
use Rattle.fault.specs.declared.CallFault.TheVariants.{NoSlip}
use Rattle.fault.specs.declared.Fault.TheVariants as fault
use Rattle.packet.proofs.Spelling.{same_answer}
use Rattle.store.specs.declared.actor_store.Half.TheVariants as half
use Rattle.model.specs.Composing.{Composition, brought_back, closed_slip, compose, composed, hand_in}
use Rattle.model.specs.Models.{HubModel, Step, SwitchModel, change_switch, find_switch, hub_after, is_number}
use Rattle.model.specs.Opening.{enrol}
use Rattle.model.specs.Settings.{set_control, set_value}
use Rattle.model.specs.Taking.{take_payload}
use Rattle.law.proofs.Elements.{err≢ok}
use Rattle.law.proofs.Granted.{compose_is}
use Rattle.law.proofs.Switches.{KeepsId, find_at_other, find_at_same}
use Rattle.hub.specs.Compositions.{composition}
use Rattle.hub.specs.declared.composition.Composed.{Composed}
use Rattle.hub.specs.Slips.{SlipModel, owed, owed_by, slip_in}
use Rattle.hub.proofs.Kept.{SameSlips, slips_control, slips_enrol, slips_take, slips_value, vacant}
use Rattle.bench_hub.specs.declared.call.Fate.{Fate}
use Rattle.bench_hub.specs.declared.call.Fate.TheVariants.{Kept, Sent, Withheld}
use Rattle.bench_hub.specs.declared.call.Plain.{Plain}
use Rattle.bench_hub.specs.declared.call.Plain.TheVariants as plain
use Rattle.bench_hub.specs.Calls.{words_in}
use Rattle.bench_hub.specs.Playing.{Scene, applied, handed_in, placed}

-- what one hub has open, the other has too
abbrev pub StillOwed : HubModel → HubModel → Type 0
StillOwed h g = (x : SlipModel) → owed h x ≡ true → owed g x ≡ true

-- whether a slip is owed lies in the slip that its switch has open
owed_out : (x : SlipModel) (o : Option SwitchModel) → owed_by x o ≡ is_number (slip_in o) x.number
owed_out x None = refl
owed_out x (Some m) = refl

still_owed : (h g : HubModel) → SameSlips h g → StillOwed h g
still_owed h g same x e =
    owed_out x (find_switch x.switch g.switches) ∙ ap (λ (o : Option ℕ). is_number o x.number) (same x.switch)
    ∙ sym (owed_out x (find_switch x.switch h.switches)) ∙ e

-- a call that opens and closes no slip
pub after_plain : (h : HubModel) (call : Plain) (body : List ℕ) → StillOwed h (applied h call body).1
after_plain h plain.Nothing body x e = e
after_plain h (plain.Enrol switch) body x e = still_owed h (hub_after h (enrol h switch (take 65 (words_in body)))) (slips_enrol h switch (take 65 (words_in body))) x e
after_plain h (plain.Actual actor value) body x e = still_owed h (hub_after h (set_value h actor half.Actual value)) (slips_value h actor half.Actual value) x e
after_plain h (plain.Target actor value) body x e = still_owed h (hub_after h (set_value h actor half.Target value)) (slips_value h actor half.Target value) x e
after_plain h (plain.Control switch word) body x e = still_owed h (hub_after h (set_control h switch word)) (slips_control h switch word) x e
after_plain h plain.Take body x e = still_owed h (hub_after h (take_payload h body)) (slips_take h body) x e
after_plain h (plain.ActorMark switch actor) body x e = e
after_plain h (plain.ControlMark switch) body x e = e
after_plain h (plain.Flags switch) body x e = e
after_plain h (plain.LatestKey switch) body x e = e
after_plain h (plain.Reading switch) body x e = e
after_plain h (plain.Outstanding switch) body x e = e

-- Composing, for a switch that has no slip open.

-- a step of that switch alone
elsewhere : (h g : HubModel) (id : ℕ) → ((x : SlipModel) → x.switch ≡ id → owed h x ≡ true → ⊥) → ((s : ℕ) → (id ≡ s → ⊥) → find_switch s g.switches ≡ find_switch s h.switches) → StillOwed h g
elsewhere h g id none same x e = ⊎_elim (λ q. absurd (none x (sym q) e)) (λ d. ap (owed_by x) (same x.switch d) ∙ e) (cases_eq id x.switch)

-- handing a slip in to its switch leaves the others as they are
others : (f : SwitchModel → SwitchModel) → KeepsId f → (g : HubModel) (id n : ℕ) (o : Option SwitchModel) (s : ℕ) → (id ≡ s → ⊥)
    → find_switch s (hub_after g (hand_in f g id n o)).switches ≡ find_switch s g.switches
others f k g id n None s d = refl
others f k g id n (Some m) s d = go (is_number m.numbers.slip n)
  where
    go : (b : Bool) → find_switch s (hub_after {A = Unit {0}} g (cond b (Ok (tt, change_switch id f g)) (Err (fault.Call NoSlip 0)))).switches ≡ find_switch s g.switches
    go true = find_at_other id s f k d g.switches
    go false = refl

others_handed : (fate : Fate) (g : HubModel) (x : SlipModel) (s : ℕ) → (x.switch ≡ s → ⊥) → find_switch s (hub_after g (handed_in fate g x)).switches ≡ find_switch s g.switches
others_handed Sent g x s d = others closed_slip (λ m. refl) g x.switch x.number (find_switch x.switch g.switches) s d
others_handed Kept g x s d = others brought_back (λ m. refl) g x.switch x.number (find_switch x.switch g.switches) s d
others_handed Withheld g x s d = others brought_back (λ m. refl) g x.switch x.number (find_switch x.switch g.switches) s d

-- a hub takes a slip that it has open
taken : (f : SwitchModel → SwitchModel) (h : HubModel) (x : SlipModel) (o : Option SwitchModel) → owed_by x o ≡ true → is_ok (hand_in f h x.switch x.number o) ≡ true
taken f h x None e = absurd (true≢false (sym e))
taken f h x (Some m) e = ap (λ (b : Bool). is_ok (cond {A = Step Unit} b (Ok (tt, change_switch x.switch f h)) (Err (fault.Call NoSlip 0)))) e

pub accepted : (fate : Fate) (h : HubModel) (x : SlipModel) → owed h x ≡ true → is_ok (handed_in fate h x) ≡ true
accepted Sent h x e = taken closed_slip h x (find_switch x.switch h.switches) e
accepted Kept h x e = taken brought_back h x (find_switch x.switch h.switches) e
accepted Withheld h x e = taken brought_back h x (find_switch x.switch h.switches) e

-- A packet that was composed: its slip is owed, and what was owed is.
module _ (h : HubModel) (id : ℕ) (buf : List ℕ) (c : Composition) (g : HubModel) (e : compose h id buf ≡ Ok (c, g)) where
  fresh : owed g (record { switch = id; number = c.number }) ≡ true
  fresh =
      let i = compose_is h id buf c g e in
      let m = i.switch in
      let at = ap (λ (k : HubModel). find_switch id k.switches) i.after ∙ find_at_same id composed (λ x. refl) h.switches ∙ ap (option_map composed) i.enrolled in
      ap (owed_by (record { switch = id; number = c.number })) at ∙ ap (λ (n : ℕ). is_number (composed m).numbers.slip n) i.number ∙ eq-eqb m.numbers.next m.numbers.next refl

  none : (x : SlipModel) → x.switch ≡ id → owed h x ≡ true → ⊥
  none x q o =
      let here = ap (λ (n : ℕ). owed_by x (find_switch n h.switches)) (sym q) ∙ o in
      true≢false (sym here ∙ owed_out x (find_switch id h.switches) ∙ ap (λ (n : Option ℕ). is_number n x.number) (vacant h id buf (find_switch id h.switches) (c, g) e))

  same : (s : ℕ) → (id ≡ s → ⊥) → find_switch s g.switches ≡ find_switch s h.switches
  same s d = ap (λ (k : HubModel). find_switch s k.switches) (compose_is h id buf c g e).after ∙ find_at_other id s composed (λ x. refl) d h.switches

  still : StillOwed h g
  still = elsewhere h g id none same

  still_handed : (fate : Fate) → StillOwed h (hub_after g (handed_in fate g (record { switch = id; number = c.number })))
  still_handed fate =
      elsewhere h (hub_after g (handed_in fate g (record { switch = id; number = c.number }))) id none (λ s d. others_handed fate g (record { switch = id; number = c.number }) s d ∙ same s d)

  placed_owed : (fate : Fate) (kept : Option SlipModel) → ForSome kept (λ x. owed h x ≡ true)
      → ForSome (placed fate (record { switch = id; number = c.number }) g kept).kept (λ x. owed (placed fate (record { switch = id; number = c.number }) g kept).hub x ≡ true)
  placed_owed Kept None k y q = let same : record { switch = id; number = c.number } ≡ y = cc in subst (λ (z : SlipModel). owed g z ≡ true) same fresh
  placed_owed Kept (Some z) k y q = still_handed Withheld y (k y q)
  placed_owed Sent kept k y q = still_handed Sent y (k y q)
  placed_owed Withheld kept k y q = still_handed Withheld y (k y q)

-- By the answer of `compose`.

pub issued : (h : HubModel) (id : ℕ) (buf : List ℕ) (told : Composed) (g : HubModel) → Ok told ≡ composition id (compose h id buf) → g ≡ hub_after h (compose h id buf)
    → owed g told.slip ≡ true
issued h id buf told g answer now = go (compose h id buf) refl answer now
  where
    go : (r : Step Composition) → compose h id buf ≡ r → Ok told ≡ composition id r → g ≡ hub_after h r → owed g told.slip ≡ true
    go (Err f) q p n = absurd (err≢ok (sym p))
    go (Ok p) q a n =
        ap (λ (t : Composed). owed g t.slip) (same_answer _ _ a) ∙ ap (λ (k : HubModel). owed k (record { switch = id; number = p.0.number })) n ∙ fresh h id buf p.0 p.1 q

abbrev PlacedOwed : Fate → Option SlipModel → SlipModel → HubModel → Type 0
PlacedOwed fate kept x h = ForSome (placed fate x h kept).kept (λ y. owed (placed fate x h kept).hub y ≡ true)

pub kept_owed : (fate : Fate) (h : HubModel) (id : ℕ) (buf : List ℕ) (kept : Option SlipModel) (told : Composed) (g : HubModel)
    → Ok told ≡ composition id (compose h id buf) → g ≡ hub_after h (compose h id buf) → ForSome kept (λ x. owed h x ≡ true)
    → ForSome (placed fate told.slip g kept).kept (λ x. owed (placed fate told.slip g kept).hub x ≡ true)
kept_owed fate h id buf kept told g answer now k = go (compose h id buf) refl answer now
  where
    go : (r : Step Composition) → compose h id buf ≡ r → Ok told ≡ composition id r → g ≡ hub_after h r
        → ForSome (placed fate told.slip g kept).kept (λ x. owed (placed fate told.slip g kept).hub x ≡ true)
    go (Err f) q p n = absurd (err≢ok (sym p))
    go (Ok p) q a n =
        subst (λ (t : Composed). PlacedOwed fate kept t.slip g) (sym (same_answer _ _ a)) (subst (PlacedOwed fate kept (record { switch = id; number = p.0.number })) (sym n) (placed_owed h id buf p.0 p.1 q fate kept k))

-- the same under other names
pub owed_as : (s t : Scene) → s ≡ t → ForSome t.kept (λ x. owed t.hub x ≡ true) → ForSome s.kept (λ x. owed s.hub x ≡ true)
owed_as s t e k = subst (λ (r : Scene). ForSome r.kept (λ x. owed r.hub x ≡ true)) (sym e) k
