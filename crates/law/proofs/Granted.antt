-- What a granted call did, and that a refused one did nothing.
use Rattle.std.proofs.Common.{◌≡◌, ℕ, ◌+◌, ◌≤◌, Bool, true, false, cond, not, eqb, ltb, List, [], ◌∷◌, ◌++◌, length, take, drop, ℤ, is_some, is_ok, Some, None, Ok, Err, Option, Result, sym, refl, ap, ◌∙◌, ap₂, arith}
use Rattle.std.specs.Option.{option_map}
use Rattle.std.specs.List.{AllByRecursion}
use Rattle.std.proofs.lemmas.List.{take_at}
use Rattle.std.proofs.lemmas.Bool.{eq-eqb, eqb-false, ltb-false, or_parts}
use Rattle.std.proofs.lemmas.Option.{none-some}
use Rattle.fault.specs.declared.CallFault.TheVariants.{NoSlip, NothingOutstanding, ShortBuffer, SlipOpen}
use Rattle.fault.specs.declared.Fault.{Fault}
use Rattle.fault.specs.declared.Fault.TheVariants as fault
use Rattle.packet.proofs.Spelling.{past, same_answer}
use Rattle.store.specs.declared.actor_store.Half.{Half}
use Rattle.store.specs.Meaning.{Known, put_answer}
use Rattle.store.specs.Lists.{lists}
use Rattle.model.specs.Composing.{Composition, brought_back, closed_slip, compose, compose_for, composed, composed_bytes, composition_for, hand_in, has_outstanding, packet_for, packet_over, sent, withheld}
use Rattle.model.specs.Models.{HubModel, Step, SwitchModel, change_switch, find_switch, hub_after, is_number, with_control, with_switches}
use Rattle.model.specs.Opening.{enrol, enrol_fault, entry_fault, new_switch, unless}
use Rattle.model.specs.Settings.{at_enrolled, granted, set_control, set_value, with_value}
use Rattle.law.specs.World as world
use Rattle.law.specs.World.{Call, Refused, leaves}
use Rattle.law.proofs.Elements.{err≢ok}
use Rattle.law.proofs.Switches.{find_at_same}

found : {A : Type 0} (o : Option SwitchModel) (f : SwitchModel → Result A Fault) {x : A} → at_enrolled o f ≡ Ok x → (m : SwitchModel) × (o ≡ Some m) × (f m ≡ Ok x)
found None f e = absurd (err≢ok e)
found (Some m) f e = (m, refl, e)

-- enrolment: every entry is an actor that the store knows
abbrev pub Entry : Known → ℕ → Type 0
Entry st a = (a ≡ 0 → ⊥) × (is_some (st a) ≡ true)

no_fault : (b : Bool) (f : Fault) (o : Option Fault) → cond b (Some f) o ≡ None → (b ≡ false) × (o ≡ None)
no_fault true f o e = absurd (none-some _ (sym e))
no_fault false f o e = (refl, e)

is_known : (b : Bool) (f : Fault) (o : Option Fault) → cond b o (Some f) ≡ None → (b ≡ true) × (o ≡ None)
is_known true f o e = (refl, e)
is_known false f o e = absurd (none-some _ (sym e))

entries : (st : Known) (before : List ℕ) (i : ℕ) (list : List ℕ) → entry_fault st before i list ≡ None → AllByRecursion (Entry st) list
entries st before i [] e = tt
entries st before i (a ∷ rest) e =
    let p = no_fault _ _ _ e in
    let q = is_known _ _ _ p.1 in
    let z = or_parts (eqb a 0) (lists before a) p.0 in
    ((eqb-false a 0 z.0, q.0), entries st (before ++ a ∷ []) (i + 1) rest q.1)

unless_granted : {A : Type 0} (o : Option Fault) (x : A) {y : A} → unless o x ≡ Ok y → (o ≡ None) × (x ≡ y)
unless_granted None x e = (refl, same_answer _ _ e)
unless_granted (Some f) x e = absurd (err≢ok e)

pub enrol_is : (h : HubModel) (id : ℕ) (list : List ℕ) (g : HubModel) → enrol h id list ≡ Ok (tt, g)
    → (g ≡ with_switches (h.switches ++ new_switch id list ∷ []) h) × (length list ≤ 64) × AllByRecursion (Entry h.store) list
enrol_is h id list g e =
    let u = unless_granted (enrol_fault h id list) _ e in
    let none = u.0 in
    let long : ltb 64 (length list) ≡ false = grind arith in
    let each : entry_fault h.store [] 0 list ≡ None = grind arith in
    (ap (λ (p : Unit {0} × HubModel). p.1) (sym u.1), ltb-false 64 (length list) long, entries h.store [] 0 list each)

granted_parts : (r : Result Unit Fault) (g : HubModel) {y : Unit {0} × HubModel} → granted r g ≡ Ok y → (r ≡ Ok tt) × ((tt, g) ≡ y)
granted_parts (Ok x) g e = (refl, same_answer _ _ e)
granted_parts (Err f) g e = absurd (err≢ok e)

pub set_is : (h : HubModel) (a : ℕ) (half : Half) (v : ℤ) (g : HubModel) → set_value h a half v ≡ Ok (tt, g) → (put_answer h.store a v ≡ Ok tt) × (g ≡ with_value a half v h)
set_is h a half v g e = let p = granted_parts (put_answer h.store a v) _ e in (p.0, ap (λ (y : Unit {0} × HubModel). y.1) (sym p.1))

pub control_is : (h : HubModel) (id word : ℕ) (g : HubModel) → set_control h id word ≡ Ok (tt, g) → g ≡ change_switch id (with_control word) h
control_is h id word g e =
    let f = found (find_switch id h.switches) _ e in
    ap (λ (y : Unit {0} × HubModel). y.1) (sym (same_answer _ _ (past _ _ _ _ f.2).1))

-- a granted compose: its packet stands at the front of the buffer
pub record Issued (h : HubModel) (s : ℕ) (buf : List ℕ) (c : Composition) (g : HubModel) : Type 0 where
  pub switch : SwitchModel
  pub enrolled : find_switch s h.switches ≡ Some switch
  pub after : g ≡ change_switch s composed h
  pub bytes : take c.size (composed_bytes h s buf) ≡ packet_for h switch
  pub number : c.number ≡ switch.numbers.next

pub compose_is : (h : HubModel) (s : ℕ) (buf : List ℕ) (c : Composition) (g : HubModel) → compose h s buf ≡ Ok (c, g) → Issued h s buf c g
compose_is h s buf c g e =
    let f = found (find_switch s h.switches) (compose_for h s buf) e in
    let m = f.0 in
    let a = past (is_some m.numbers.slip) (fault.Call SlipOpen 0) _ _ f.2 in
    let b = past (not (has_outstanding m)) (fault.Call NothingOutstanding 0) _ _ a.1 in
    let d = past (ltb (length buf) (length (packet_for h m))) (fault.Call ShortBuffer 0) (Ok (composition_for h m, change_switch s composed h)) _ b.1 in
    let same = same_answer _ _ d.1 in
    let size : length (packet_for h m) ≡ c.size = ap (λ (y : Composition × HubModel). y.0.size) same in
    record {
      switch = m;
      enrolled = f.1;
      after = ap (λ (y : Composition × HubModel). y.1) (sym same);
      bytes = ap (take c.size) (ap₂ (λ (o : Option SwitchModel) (r : Step Composition). packet_over h o buf r) f.1 e) ∙ take_at (packet_for h m) (drop (length (packet_for h m)) buf) c.size size;
      number = ap (λ (y : Composition × HubModel). y.0.number) (sym same);
    }

-- the slip that a compose issues is owed: handed in next, it is accepted
pub slip_is_owed : (h : HubModel) (s : ℕ) (buf : List ℕ) (c : Composition) (g : HubModel) → compose h s buf ≡ Ok (c, g) → is_ok (sent g s c.number) ≡ true
slip_is_owed h s buf c g e =
    let i = compose_is h s buf c g e in
    let m = i.switch in
    let at = ap (λ (k : HubModel). find_switch s k.switches) i.after ∙ find_at_same s composed (λ x. refl) h.switches ∙ ap (option_map composed) i.enrolled in
    let owed = ap (λ (n : ℕ). is_number (composed m).numbers.slip n) i.number ∙ eq-eqb m.numbers.next m.numbers.next refl in
    ap (λ (o : Option SwitchModel). is_ok (hand_in closed_slip g s c.number o)) at
    ∙ ap (λ (b : Bool). is_ok (cond {A = Step Unit} b (Ok (tt, change_switch s closed_slip g)) (Err (fault.Call NoSlip 0)))) owed

hand_in_lem : (f : SwitchModel → SwitchModel) (h : HubModel) (s number : ℕ) (o : Option SwitchModel) (g : HubModel) → hand_in f h s number o ≡ Ok (tt, g)
    → (m : SwitchModel) × (o ≡ Some m) × (g ≡ change_switch s f h) × (is_number m.numbers.slip number ≡ true)
hand_in_lem f h s number None g e = absurd (err≢ok e)
hand_in_lem f h s number (Some m) g e = go (is_number m.numbers.slip number) refl e
  where
    go : (b : Bool) → is_number m.numbers.slip number ≡ b → ◌≡◌ {A = Step Unit} (cond b (Ok (tt, change_switch s f h)) (Err (fault.Call NoSlip 0))) (Ok (tt, g))
        → (n : SwitchModel) × (Some m ≡ Some n) × (g ≡ change_switch s f h) × (is_number n.numbers.slip number ≡ true)
    go true q r = (m, refl, ap (λ (y : Unit {0} × HubModel). y.1) (sym (same_answer _ _ r)), q)
    go false q r = absurd (err≢ok r)

pub sent_is : (h : HubModel) (s number : ℕ) (g : HubModel) → sent h s number ≡ Ok (tt, g)
    → (m : SwitchModel) × (find_switch s h.switches ≡ Some m) × (g ≡ change_switch s closed_slip h) × (is_number m.numbers.slip number ≡ true)
sent_is h s number g e = hand_in_lem closed_slip h s number (find_switch s h.switches) g e

pub withheld_is : (h : HubModel) (s number : ℕ) (g : HubModel) → withheld h s number ≡ Ok (tt, g)
    → (m : SwitchModel) × (find_switch s h.switches ≡ Some m) × (g ≡ change_switch s brought_back h) × (is_number m.numbers.slip number ≡ true)
withheld_is h s number g e = hand_in_lem brought_back h s number (find_switch s h.switches) g e

-- a refused call leaves the hub as it was
left : {A : Type 0} (h : HubModel) (r : Step A) → ((e : Fault) × (r ≡ Err e)) → hub_after h r ≡ h
left h (Ok p) x = absurd (err≢ok (sym x.1))
left h (Err e) x = refl

pub refused_leaves : (h : HubModel) (c : Call) → Refused h c → leaves h c ≡ h
refused_leaves h (world.Call.enrolling id list) x = left h _ x
refused_leaves h (world.Call.setting_value half a v) x = left h _ x
refused_leaves h (world.Call.setting_control id word) x = left h _ x
refused_leaves h (world.Call.taking payload) x = left h _ x
refused_leaves h (world.Call.composing id buf) x = left h _ x
refused_leaves h (world.Call.sending id number) x = left h _ x
refused_leaves h (world.Call.withholding id number) x = left h _ x
