-- Exactly the lawful lists have no fault, and the fault of an entry is the first's.
use Rattle.std.proofs.Common.{◌≡◌, ℕ, zero, suc, ◌+◌, ◌<◌, ◌≤◌, Bool, true, false, cond, ◌||◌, eqb, ltb, ◌⊎◌, List, [], ◌∷◌, ◌++◌, length, get_or, Some, None, Option, sym, refl, ap, ◌∙◌, subst, inl, inr, ⊎_elim, le_of_suc-le-suc, not-suc-le-zero, arith, length-append}
use Rattle.std.proofs.lemmas.List.{append_assoc, append-nil, get_or_at, get_or_append_left}
use Rattle.std.proofs.lemmas.Bool.{or_cases, or_parts, or_from, eqb-true, eqb-false, ne_eqb, le-ltb, ltb-false, cond-false, cases_order}
use Rattle.fault.specs.declared.Fault.{Fault}
use Rattle.fault.specs.declared.Fault.TheVariants.{Store}
use Rattle.fault.specs.declared.StoreFault.TheVariants as store
use Rattle.store.specs.Lists.{lists, entry_fault, list_fault, Spoilt, FirstSpoilt, LawfulList, ListRule}

listed_at : (xs : List ℕ) (a : ℕ) → lists xs a ≡ true → (j : ℕ) × (j < length xs) × (get_or xs j 0 ≡ a)
listed_at [] a t = absurd (grind arith)
listed_at (x ∷ xs) a t =
    ⊎_elim (λ e. (0, omega arith, eqb-true x a e)) (λ e. let j = listed_at xs a e in (suc j.0, omega (arith, j.1), j.2)) (or_cases (eqb x a) (lists xs a) t)

unlisted : (xs : List ℕ) (a j : ℕ) → lists xs a ≡ false → j < length xs → get_or xs j 0 ≡ a → ⊥
unlisted [] a j f l e = not-suc-le-zero l
unlisted (x ∷ xs) a zero f l e = eqb-false x a (or_parts (eqb x a) (lists xs a) f).0 e
unlisted (x ∷ xs) a (suc j) f l e = unlisted xs a j (or_parts (eqb x a) (lists xs a) f).1 (le_of_suc-le-suc l) e

-- what a fault of an entry, or none, says of the list
Told : List ℕ → Option Fault → Type 0
Told list o = ((o ≡ None) × ((k : ℕ) → k < length list → Spoilt list k → ⊥)) ⊎ ((k : ℕ) × (o ≡ Some (Store store.ListEntry k)) × FirstSpoilt list k)

told : (before rest : List ℕ) (i : ℕ) → length before ≡ i → ((k : ℕ) → k < i → Spoilt (before ++ rest) k → ⊥) → Told (before ++ rest) (entry_fault before i rest)
unfolding Told
told before [] i e none =
    let l : length (before ++ []) ≡ i = ap length (append-nil before) ∙ e in
    inl (refl, λ k h. none k (omega arith))
told before (a ∷ rest) i e none = go (eqb a 0 || lists before a) refl (told (before ++ a ∷ []) rest (i + 1) long)
  where
    long : length (before ++ a ∷ []) ≡ i + 1
    long = length-append before (a ∷ []) ∙ omega arith

    here : get_or (before ++ a ∷ rest) i 0 ≡ a
    here = get_or_at before a rest 0 i e

    earlier : (j : ℕ) → j < i → get_or (before ++ a ∷ rest) j 0 ≡ get_or before j 0
    earlier j l = get_or_append_left before (a ∷ rest) 0 j (omega arith)

    same : (before ++ a ∷ []) ++ rest ≡ before ++ a ∷ rest
    same = append_assoc before (a ∷ []) rest

    go : (b : Bool) → (eqb a 0 || lists before a) ≡ b → (((k : ℕ) → k < i + 1 → Spoilt ((before ++ a ∷ []) ++ rest) k → ⊥) → Told ((before ++ a ∷ []) ++ rest) (entry_fault (before ++ a ∷ []) (i + 1) rest)) → Told (before ++ a ∷ rest) (cond b (Some (Store store.ListEntry i)) (entry_fault (before ++ a ∷ []) (i + 1) rest))
    go true t later =
        let l : length (before ++ a ∷ rest) ≡ length before + suc (length rest) = length-append before (a ∷ rest) in
        let sp : Spoilt (before ++ a ∷ rest) i =
        ⊎_elim (λ z. inl (here ∙ eqb-true a 0 z)) (λ z. let j = listed_at before a z in let h : j.0 < i = omega (arith, j.1) in inr (j.0, h, earlier j.0 h ∙ j.2 ∙ sym here))
        (or_cases (eqb a 0) (lists before a) t) in
        inr (i, refl, (omega arith, sp, none))
    go false t later =
        let p = or_parts (eqb a 0) (lists before a) t in
        let At : List ℕ → Type 0 = λ ys. Told ys (entry_fault (before ++ a ∷ []) (i + 1) rest) in
        subst At same
        (later
        (λ k l sp.
        let Of : List ℕ → Type 0 = λ ys. Spoilt ys k in
        let sk : Spoilt (before ++ a ∷ rest) k = subst Of same sp in
        ⊎_elim (λ z. fresh p (subst (Spoilt (before ++ a ∷ rest)) z sk)) (λ w. ⊎_elim (λ z. none k z sk) (λ z. omega arith) w) (cases_order k i)))
      where
        fresh : (eqb a 0 ≡ false) × (lists before a ≡ false) → Spoilt (before ++ a ∷ rest) i → ⊥
        fresh p (inl z) = eqb-false a 0 p.0 (sym here ∙ z)
        fresh p (inr j) = unlisted before a j.0 p.1 (omega (arith, j.1)) (sym (earlier j.0 j.1) ∙ j.2 ∙ here)

module _ (list : List ℕ) where
  abbrev misfit : Bool
  misfit = eqb (length list) 0 || ltb 256 (length list)

  abbrev fault : Option Fault
  fault = entry_fault [] 0 list

  entries : Told list fault
  entries = told [] list 0 refl (λ k l. absurd (not-suc-le-zero l))

  lengths : misfit ≡ false → (1 ≤ length list) × (length list ≤ 256)
  lengths f =
      let p = or_parts (eqb (length list) 0) (ltb 256 (length list)) f in
      let z = eqb-false (length list) 0 p.0 in
      (grind (arith, z), ltb-false 256 (length list) p.1)

  is_sound : (b : Bool) → misfit ≡ b → cond b (Some (Store store.ListLength 0)) fault ≡ None → LawfulList list
  unfolding Told
  is_sound true m e = absurd (grind arith)
  is_sound false m e =
      record {
        some = (lengths m).0;
        few = (lengths m).1;
        whole = ⊎_elim (λ n. n.1) (λ k. absurd (clash k.0 (sym k.1 ∙ e))) entries;
      }
    where
      clash : (k : ℕ) → ◌≡◌ {A = Option Fault} (Some (Store store.ListEntry k)) None → ⊥
      clash k c = grind arith

  is_complete : LawfulList list → list_fault list ≡ None
  unfolding Told
  is_complete w =
      let m : misfit ≡ false = or_from _ _ (ne_eqb (length list) 0 (λ z. omega (arith, w.some))) (le-ltb 256 (length list) w.few) in
      cond-false _ _ _ m ∙ ⊎_elim (λ n. n.0) (λ k. absurd (w.whole k.0 k.2.0 k.2.1)) entries

  is_first : (i : ℕ) (b : Bool) → misfit ≡ b → cond b (Some (Store store.ListLength 0)) fault ≡ Some (Store store.ListEntry i) → FirstSpoilt list i
  unfolding Told
  is_first i true m e = absurd (grind arith)
  is_first i false m e =
      ⊎_elim (λ n. absurd (clash (sym n.0 ∙ e)))
      (λ k. let same : k.0 ≡ i = back k.0 (sym k.1 ∙ e) in subst (FirstSpoilt list) same k.2) entries
    where
      clash : ◌≡◌ {A = Option Fault} None (Some (Store store.ListEntry i)) → ⊥
      clash c = grind arith

      back : (k : ℕ) → ◌≡◌ {A = Option Fault} (Some (Store store.ListEntry k)) (Some (Store store.ListEntry i)) → k ≡ i
      back k c = cc

  pub list_rule : ListRule list
  list_rule = record { sound = is_sound misfit refl; complete = is_complete; first = λ i. is_first i misfit refl }
