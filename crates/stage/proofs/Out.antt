-- The slips at hand are those that the hub has out: every call keeps this, where a composed slip joins them and one that is handed in leaves.
use Rattle.std.proofs.Common.{◌≡◌, ℕ, suc, ◌<◌, Bool, true, false, cond, not, eqb, List, [], ◌∷◌, ◌++◌, length, get_or, take, drop, ℤ, is_ok, Some, None, Ok, Err, Option, sym, refl, ap, ◌∙◌, append-nil, drop-cons}
use Rattle.std.specs.Option.{option_map, option_to_list}
use Rattle.std.proofs.lemmas.List.{take-append-drop}
use Rattle.std.proofs.lemmas.Bool.{eq-eqb}
use Rattle.std.proofs.lemmas.Option.{none-some}
use Rattle.fault.specs.declared.CallFault.TheVariants.{NoSlip}
use Rattle.fault.specs.declared.Fault.TheVariants as fault
use Rattle.fault.specs.declared.FrameFault.TheVariants.{MajorVersion}
use Rattle.packet.proofs.Spelling.{same_answer}
use Rattle.packet.specs.Words.{major}
use Rattle.store.specs.declared.actor_store.Half.{Half}
use Rattle.store.specs.Meaning.{Known}
use Rattle.model.specs.declared.told.Site.{Site}
use Rattle.model.specs.Composing.{Composition, brought_back, closed_slip, compose, composed, hand_in}
use Rattle.model.specs.Models.{HubModel, Step, SwitchModel, change_switch, find_switch, hub_after, is_number}
use Rattle.model.specs.Opening.{enrol, new_hub, opened}
use Rattle.model.specs.Settings.{set_control, set_value}
use Rattle.model.specs.Taking.{take_payload}
use Rattle.law.proofs.Elements.{cons≢nil, err≢ok}
use Rattle.law.proofs.Granted.{compose_is}
use Rattle.law.proofs.Switches.{KeepsId, one_step}
use Rattle.hub.specs.Compositions.{composition}
use Rattle.hub.specs.Memory.{handed_back}
use Rattle.hub.specs.declared.composition.Composed.{Composed}
use Rattle.hub.specs.Slips.{SlipModel, handed_in, slip_in, slip_out}
use Rattle.hub.proofs.Kept.{SameSlips, slips_control, slips_enrol, slips_take, slips_value, vacant}
use Rattle.stage.specs.Slips.{HoldsAll, SameOut, numbers_for}
use Rattle.hub.specs.declared.slip.Fate.{Fate}
use Rattle.hub.specs.declared.slip.Fate.TheVariants.{Sent, Withheld}

pub holds_new : (site : Site) (store : Known) → HoldsAll (new_hub site store) []
unfolding numbers_for
holds_new site store s = refl

-- Steps that keep every switch's slip.

-- a hub that has out what another has
holds_still : (h g : HubModel) (slips : List SlipModel) → ((s : ℕ) → slip_out g s ≡ slip_out h s) → HoldsAll h slips → HoldsAll g slips
holds_still h g slips e all s = all s ∙ ap option_to_list (sym (e s))

-- Composing: the new slip is behind the others.

numbers_append : (s : ℕ) (a b : List SlipModel) → numbers_for s (a ++ b) ≡ numbers_for s a ++ numbers_for s b
unfolding numbers_for
numbers_append s [] b = refl
numbers_append s (x ∷ a) b = go (eqb x.switch s) (numbers_append s a b)
  where
    go : (t : Bool) → numbers_for s (a ++ b) ≡ numbers_for s a ++ numbers_for s b
        → cond t (x.number ∷ numbers_for s (a ++ b)) (numbers_for s (a ++ b)) ≡ cond t (x.number ∷ numbers_for s a) (numbers_for s a) ++ numbers_for s b
    go true ih = ap (λ (l : List ℕ). x.number ∷ l) ih
    go false ih = ih

holds_issued : (h : HubModel) (id : ℕ) (buf : List ℕ) (slips : List SlipModel) (c : Composition) (g : HubModel) → HoldsAll h slips → compose h id buf ≡ Ok (c, g)
    → HoldsAll g (slips ++ record { switch = id; number = c.number } ∷ [])
unfolding numbers_for
holds_issued h id buf slips c g all e s =
    let i = compose_is h id buf c g e in
    let none = all id ∙ ap option_to_list (vacant h id buf (find_switch id h.switches) (c, g) e) in
    let out = ap (λ (o : Option SwitchModel). slip_in (option_map composed o)) i.enrolled ∙ ap Some (sym i.number) in
    let here = ap (λ (l : List ℕ). l ++ c.number ∷ []) none ∙ ap option_to_list (sym out) in
    numbers_append s slips (record { switch = id; number = c.number } ∷ [])
    ∙ one_step {V = List ℕ} (λ t o v. numbers_for t slips ++ v ≡ option_to_list (slip_in o)) id composed (λ m. refl) h.switches (λ t. []) (c.number ∷ [])
    (λ t. append-nil (numbers_for t slips) ∙ all t) here s
    ∙ ap (λ (k : HubModel). option_to_list (slip_out k s)) (sym i.after)

pub holds_compose : (h : HubModel) (id : ℕ) (buf : List ℕ) (slips : List SlipModel) (told : Composed) (after : HubModel) → HoldsAll h slips
    → Ok told ≡ composition id (compose h id buf) → after ≡ hub_after h (compose h id buf) → HoldsAll after (slips ++ told.slip ∷ [])
holds_compose h id buf slips told after all answer now = go (compose h id buf) refl answer now
  where
    go : (r : Step Composition) → compose h id buf ≡ r → Ok told ≡ composition id r → after ≡ hub_after h r → HoldsAll after (slips ++ told.slip ∷ [])
    go (Err e) q p n s = absurd (err≢ok (sym p))
    go (Ok x) q p n s =
        ap (λ (t : Composed). numbers_for s (slips ++ t.slip ∷ [])) (same_answer _ _ p)
        ∙ holds_issued h id buf slips x.0 x.1 all q s
        ∙ ap (λ (k : HubModel). option_to_list (slip_out k s)) (sym n)

-- Handing in one of the slips at hand: the hub takes it, and has the others out.

-- where one number is all there is, nothing stands before or behind it
alone : (xs ys : List ℕ) (n : ℕ) (o : Option ℕ) → xs ++ n ∷ ys ≡ option_to_list o → (xs ++ ys ≡ []) × (o ≡ Some n)
alone [] ys n None e = absurd (cons≢nil e)
alone [] ys n (Some m) e = (cc, cc)
alone (x ∷ xs) ys n None e = absurd (cons≢nil e)
alone (x ∷ []) ys n (Some m) e = absurd (cons≢nil {x = n} {xs = ys} (cc))
alone (x ∷ y ∷ xs) ys n (Some m) e = absurd (cons≢nil {x = y} {xs = xs ++ n ∷ ys} (cc))

module _ (h : HubModel) (a b : List SlipModel) (x : SlipModel) (all : HoldsAll h (a ++ x ∷ b)) where
  between : (s : ℕ) → numbers_for s a ++ cond (eqb x.switch s) (x.number ∷ numbers_for s b) (numbers_for s b) ≡ option_to_list (slip_out h s)
  unfolding numbers_for
  between s = sym (numbers_append s a (x ∷ b)) ∙ all s

  is_out : slip_out h x.switch ≡ Some x.number
  is_out =
      let s = x.switch in
      let q = ap (λ (t : Bool). numbers_for s a ++ cond t (x.number ∷ numbers_for s b) (numbers_for s b)) (eq-eqb s s refl) in
      (alone (numbers_for s a) (numbers_for s b) x.number (slip_out h s) (sym q ∙ between s)).1

  -- no other slip is for its switch
  others : (s : ℕ) → numbers_for s (a ++ b) ≡ cond (eqb x.switch s) [] (option_to_list (slip_out h s))
  others s = numbers_append s a b ∙ go (eqb x.switch s) (between s)
    where
      go : (t : Bool) → numbers_for s a ++ cond t (x.number ∷ numbers_for s b) (numbers_for s b) ≡ option_to_list (slip_out h s)
          → numbers_for s a ++ numbers_for s b ≡ cond t [] (option_to_list (slip_out h s))
      go true e = (alone (numbers_for s a) (numbers_for s b) x.number (slip_out h s) e).0
      go false e = e

  -- by any step that leaves its switch with no slip
  module _ (f : SwitchModel → SwitchModel) (i : KeepsId f) (k : (m : SwitchModel) → (f m).numbers.slip ≡ None) where
    taken_in : hand_in f h x.switch x.number (find_switch x.switch h.switches) ≡ Ok (tt, change_switch x.switch f h)
    taken_in = go (find_switch x.switch h.switches) is_out
      where
        go : (o : Option SwitchModel) → slip_in o ≡ Some x.number → hand_in f h x.switch x.number o ≡ Ok (tt, change_switch x.switch f h)
        go None e = absurd (none-some _ e)
        go (Some m) e =
            ap (λ (t : Bool). cond {A = Step Unit} t (Ok (tt, change_switch x.switch f h)) (Err (fault.Call NoSlip 0)))
            (ap (λ (o : Option ℕ). is_number o x.number) e ∙ eq-eqb x.number x.number refl)

    handed_owed : is_ok (hand_in f h x.switch x.number (find_switch x.switch h.switches)) ≡ true
    handed_owed = ap is_ok taken_in

    handed_left : HoldsAll (hub_after h (hand_in f h x.switch x.number (find_switch x.switch h.switches))) (a ++ b)
    handed_left s =
        others s
        ∙ one_step {V = List ℕ} (λ t o v. v ≡ option_to_list (slip_in o)) x.switch f i h.switches (λ t. option_to_list (slip_out h t)) [] (λ t. refl) (none (find_switch x.switch h.switches)) s
        ∙ ap (λ (r : Step Unit). option_to_list (slip_out (hub_after h r) s)) (sym taken_in)
      where
        none : (o : Option SwitchModel) → [] ≡ option_to_list (slip_in (option_map f o))
        none None = refl
        none (Some m) = ap option_to_list (sym (k m))

  pub owed : (fate : Fate) → is_ok (handed_in fate h x) ≡ true
  owed Sent = handed_owed closed_slip (λ m. refl) (λ m. refl)
  owed Withheld = handed_owed brought_back (λ m. refl) (λ m. refl)

  pub left : (fate : Fate) → HoldsAll (hub_after h (handed_in fate h x)) (a ++ b)
  left Sent = handed_left closed_slip (λ m. refl) (λ m. refl)
  left Withheld = handed_left brought_back (λ m. refl) (λ m. refl)

-- the same hub and the same slips under other names
pub holds_as : (h g : HubModel) (xs ys : List SlipModel) → g ≡ h → ys ≡ xs → HoldsAll h xs → HoldsAll g ys
holds_as h g xs ys e q all s = ap (numbers_for s) q ∙ all s ∙ ap (λ (k : HubModel). option_to_list (slip_out k s)) (sym e)

-- the slip at a place, among the others
module _ (h : HubModel) (xs : List SlipModel) (i : ℕ) (x : SlipModel) (l : i < length xs) (e : x ≡ get_or xs i x) (all : HoldsAll h xs) where
  holds_around : HoldsAll h (take i xs ++ x ∷ drop (suc i) xs)
  holds_around =
      holds_as h h xs (take i xs ++ x ∷ drop (suc i) xs) refl
      (ap (λ (y : SlipModel). take i xs ++ y ∷ drop (suc i) xs) e ∙ ap (λ (ys : List SlipModel). take i xs ++ ys) (sym (drop-cons xs i x l)) ∙ take-append-drop i xs) all

  pub owed_at : (fate : Fate) → is_ok (handed_in fate h x) ≡ true
  owed_at = owed h (take i xs) (drop (suc i) xs) x holds_around

  pub left_at : (fate : Fate) → HoldsAll (hub_after h (handed_in fate h x)) (take i xs ++ drop (suc i) xs)
  left_at = left h (take i xs) (drop (suc i) xs) x holds_around

-- A call that opens and closes no slip, by what it leaves.

same_out : (h k g : HubModel) → SameSlips h k → g ≡ k → SameOut h g
same_out h k g same e slips all = holds_as k g slips slips e refl (holds_still h k slips same all)

pub same_enrol : (h g : HubModel) (id : ℕ) (list : List ℕ) → g ≡ hub_after h (enrol h id list) → SameOut h g
same_enrol h g id list = same_out h _ g (slips_enrol h id list)

pub same_value : (h g : HubModel) (a : ℕ) (half : Half) (v : ℤ) → g ≡ hub_after h (set_value h a half v) → SameOut h g
same_value h g a half v = same_out h _ g (slips_value h a half v)

pub same_control : (h g : HubModel) (id word : ℕ) → g ≡ hub_after h (set_control h id word) → SameOut h g
same_control h g id word = same_out h _ g (slips_control h id word)

pub same_take : (h g : HubModel) (payload : List ℕ) → g ≡ hub_after h (take_payload h payload) → SameOut h g
same_take h g payload = same_out h _ g (slips_take h payload)

-- a hub that was opened has no slip out
pub holds_opened : {S : Type 0} (store : S) (site : Site) (known : Known) (h : HubModel) → Ok h ≡ handed_back store (opened site known) → HoldsAll h []
holds_opened {S} store site known h e = go (not (eqb (major site.version) 2)) e
  where
    go : (b : Bool) → Ok h ≡ handed_back store (cond b (Err (fault.Frame MajorVersion 0)) (Ok (new_hub site known))) → HoldsAll h []
    go true q = absurd (err≢ok (sym q))
    go false q = holds_as (new_hub site known) h [] [] (same_answer _ _ q) refl (holds_new site known)
