-- Looking up a switch after a step of the hub.
use Rattle.std.proofs.Common.{◌≡◌, ℕ, Bool, true, false, cond, eqb, List, [], ◌∷◌, ◌++◌, map, Some, None, Option, sym, refl, ap, ◌∙◌, subst, ⊎_elim}
use Rattle.std.specs.Option.{option_map, option_or}
use Rattle.std.proofs.lemmas.Bool.{cases_eq, eqb-false, eqb-true, ne_eqb}
use Rattle.model.specs.Models.{SwitchModel, at_switch, find_switch}

-- a step of one switch, or of all, keeps the SwitchIDs
abbrev pub KeepsId : (SwitchModel → SwitchModel) → Type 0
KeepsId f = (m : SwitchModel) → (f m).id ≡ m.id

pub find_map : (f : SwitchModel → SwitchModel) → KeepsId f → (s : ℕ) (ms : List SwitchModel) → find_switch s (map f ms) ≡ option_map f (find_switch s ms)
find_map f k s [] = refl
find_map f k s (m ∷ ms) =
    subst (λ (n : ℕ). cond (eqb n s) (Some (f m)) (find_switch s (map f ms)) ≡ option_map f (cond (eqb m.id s) (Some m) (find_switch s ms))) (sym (k m))
    (go (eqb m.id s) (find_map f k s ms))
  where
    go : (b : Bool) → find_switch s (map f ms) ≡ option_map f (find_switch s ms) → cond b (Some (f m)) (find_switch s (map f ms)) ≡ option_map f (cond b (Some m) (find_switch s ms))
    go true ih = refl
    go false ih = ih

-- a step at switch s: the look-up of s sees it, any other does not
pub find_at_same : (s : ℕ) (f : SwitchModel → SwitchModel) → KeepsId f → (ms : List SwitchModel) → find_switch s (at_switch s f ms) ≡ option_map f (find_switch s ms)
find_at_same s f k [] = refl
find_at_same s f k (m ∷ ms) = go (eqb m.id s) refl (find_at_same s f k ms)
  where
    go : (b : Bool) → eqb m.id s ≡ b → find_switch s (at_switch s f ms) ≡ option_map f (find_switch s ms)
        → find_switch s (cond b (f m ∷ ms) (m ∷ at_switch s f ms)) ≡ option_map f (cond b (Some m) (find_switch s ms))
    go true e ih = ap (λ (t : Bool). cond t (Some (f m)) (find_switch s ms)) (ap (λ (n : ℕ). eqb n s) (k m) ∙ e)
    go false e ih = ap (λ (t : Bool). cond t (Some m) (find_switch s (at_switch s f ms))) e ∙ ih

pub find_at_other : (s t : ℕ) (f : SwitchModel → SwitchModel) → KeepsId f → (s ≡ t → ⊥) → (ms : List SwitchModel) → find_switch t (at_switch s f ms) ≡ find_switch t ms
find_at_other s t f k d [] = refl
find_at_other s t f k d (m ∷ ms) = go (eqb m.id s) refl (find_at_other s t f k d ms)
  where
    apart : (n : ℕ) → n ≡ s → eqb n t ≡ false
    apart n e = ne_eqb n t (λ q. d (sym e ∙ q))

    go : (b : Bool) → eqb m.id s ≡ b → find_switch t (at_switch s f ms) ≡ find_switch t ms
        → find_switch t (cond b (f m ∷ ms) (m ∷ at_switch s f ms)) ≡ cond (eqb m.id t) (Some m) (find_switch t ms)
    go true e ih =
        let q = eqb-true m.id s e in
        ap (λ (x : Bool). cond x (Some (f m)) (find_switch t ms)) (apart (f m).id (k m ∙ q)) ∙ sym (ap (λ (x : Bool). cond x (Some m) (find_switch t ms)) (apart m.id q))
    go false e ih = ap (cond (eqb m.id t) (Some m)) ih

-- what a step keeps of any switch's model, it keeps of the one found, whichever it was made at
pub found_after : (R : Option SwitchModel → Type 0) (s t : ℕ) (f : SwitchModel → SwitchModel) → KeepsId f → (ms : List SwitchModel)
    → ((o : Option SwitchModel) → R o → R (option_map f o)) → R (find_switch t ms) → R (find_switch t (at_switch s f ms))
found_after R s t f k ms g r =
    ⊎_elim (λ e. subst (λ (n : ℕ). R (find_switch t (at_switch n f ms))) (sym e) (subst R (sym (find_at_same t f k ms)) (g (find_switch t ms) r)))
    (λ d. subst R (sym (find_at_other s t f k d ms)) r) (cases_eq s t)

-- what holds of each switch, by its model and its surroundings, holds after a step at switch s if it holds there
pub one_step : {V : Type 0} (R : ℕ → Option SwitchModel → V → Type 0) (s : ℕ) (f : SwitchModel → SwitchModel) → KeepsId f
    → (ms : List SwitchModel) (v : ℕ → V) (u : V) → ((t : ℕ) → R t (find_switch t ms) (v t)) → R s (option_map f (find_switch s ms)) u
    → (t : ℕ) → R t (find_switch t (at_switch s f ms)) (cond (eqb s t) u (v t))
one_step {V} R s f k ms v u r x t = go (eqb s t) refl
  where
    go : (b : Bool) → eqb s t ≡ b → R t (find_switch t (at_switch s f ms)) (cond b u (v t))
    go true e = subst (λ (n : ℕ). R n (find_switch n (at_switch s f ms)) u) (eqb-true s t e) (subst (λ o. R s o u) (sym (find_at_same s f k ms)) x)
    go false e = subst (λ o. R t o (v t)) (sym (find_at_other s t f k (eqb-false s t e) ms)) (r t)

-- the same where the surroundings stay, and where the switch stays as it is
pub one_switch : (R : ℕ → Option SwitchModel → Type 0) (s : ℕ) (f : SwitchModel → SwitchModel) → KeepsId f → (ms : List SwitchModel)
    → ((t : ℕ) → R t (find_switch t ms)) → R s (option_map f (find_switch s ms)) → (t : ℕ) → R t (find_switch t (at_switch s f ms))
one_switch R s f k ms r x t = one_step {V = ℕ} (λ n o v. R n o) s f k ms (λ n. n) s r x t

pub one_end : {V : Type 0} (R : ℕ → Option SwitchModel → V → Type 0) (s : ℕ) (ms : List SwitchModel) (v : ℕ → V) (u : V)
    → ((t : ℕ) → R t (find_switch t ms) (v t)) → R s (find_switch s ms) u → (t : ℕ) → R t (find_switch t ms) (cond (eqb s t) u (v t))
one_end {V} R s ms v u r x t = go (eqb s t) refl
  where
    go : (b : Bool) → eqb s t ≡ b → R t (find_switch t ms) (cond b u (v t))
    go true e = subst (λ (n : ℕ). R n (find_switch n ms) u) (eqb-true s t e) x
    go false e = r t

-- enrolment
pub find_append : (s : ℕ) (ms : List SwitchModel) (n : SwitchModel) → find_switch s (ms ++ (n ∷ [])) ≡ option_or (find_switch s ms) (cond (eqb n.id s) (Some n) None)
find_append s [] n = refl
find_append s (m ∷ ms) n = go (eqb m.id s) (find_append s ms n)
  where
    go : (b : Bool) → find_switch s (ms ++ (n ∷ [])) ≡ option_or (find_switch s ms) (cond (eqb n.id s) (Some n) None)
        → cond b (Some m) (find_switch s (ms ++ (n ∷ []))) ≡ option_or (cond b (Some m) (find_switch s ms)) (cond (eqb n.id s) (Some n) None)
    go true ih = refl
    go false ih = ih
