-- A list of actors, listed entry by entry.
use Rattle.std.proofs.Common.{◌≡◌, ℕ, suc, ◌+◌, ◌<◌, ◌≤◌, Bool, true, false, cond, not, ◌||◌, eqb, List, [], ◌∷◌, map, length, get_or, take, drop, is_some, Some, None, sym, refl, ap, ◌∙◌, ap₂, subst, arith, drop-cons}
use Rattle.std.proofs.lemmas.List.{at_drop_all, length-map, length-take-le, map-append, take_more}
use Rattle.std.proofs.lemmas.Bool.{cond-false, cond-true, lt-leb, not-false, not-true}
use Rattle.fault.specs.declared.Fault.TheVariants.{Store}
use Rattle.fault.specs.declared.StoreFault.TheVariants.{ListEntry, UnknownActor}
use Rattle.model.specs.declared.item.Item.{Item}
use Rattle.model.specs.declared.mark.Mark.TheVariants.{Due}
use Rattle.model.specs.Models.{lists_actor, with_marks}
use Rattle.model.specs.Opening.{due_item, entry_fault, new_switch}
use Rattle.store.specs.Lists.{lists}
use Rattle.store.specs.Meaning.{Known}
use Rattle.switch.specs.Items.{listing, may_list}

listed_due : (a : ℕ) (ys : List ℕ) → lists_actor a (map due_item ys) ≡ lists ys a
listed_due a [] = refl
listed_due a (y ∷ ys) = ap (λ (t : Bool). eqb y a || t) (listed_due a ys)

-- what a new switch with room may list
may_list_new : (a : ℕ) (ys : List ℕ) → length ys < 64 → may_list a (map due_item ys) ≡ not (eqb a 0 || lists ys a)
may_list_new a ys l =
    ap₂ (λ (s t : Bool). not (eqb a 0 || (s || t))) (lt-leb 64 (length (map due_item ys)) (subst (λ (n : ℕ). n < 64) (sym (length-map ys due_item)) l)) (listed_due a ys)

one_more : (n : ℕ) → suc n ≡ n + 1
one_more n = omega arith

module _ (m : Known) (xs : List ℕ) (i : ℕ) (inv : entry_fault m (take i xs) i (drop i xs) ≡ entry_fault m [] 0 xs) where
  pub entries_end : length xs ≤ i → entry_fault m [] 0 xs ≡ None
  entries_end h = sym inv ∙ at_drop_all (entry_fault m (take i xs) i) xs i h

  -- the entry at i
  module _ (h : i < length xs) (few : length xs ≤ 64) where
    abbrev a : ℕ
    a = get_or xs i 0

    rest : drop i xs ≡ a ∷ drop (i + 1) xs
    rest = drop-cons xs i 0 h ∙ ap (λ (n : ℕ). a ∷ drop n xs) (one_more i)

    here : cond (eqb a 0 || lists (take i xs) a) (Some (Store ListEntry i)) (cond (is_some (m a)) (entry_fault m (take (i + 1) xs) (i + 1) (drop (i + 1) xs)) (Some (Store UnknownActor i)))
        ≡ entry_fault m [] 0 xs
    here =
        ap (λ (l : List ℕ). cond (eqb a 0 || lists (take i xs) a) (Some (Store ListEntry i)) (cond (is_some (m a)) (entry_fault m l (i + 1) (drop (i + 1) xs)) (Some (Store UnknownActor i))))
        (take_more xs i 0 h)
        ∙ sym (ap (entry_fault m (take i xs) i) rest)
        ∙ inv

    may : may_list a (map due_item (take i xs)) ≡ not (eqb a 0 || lists (take i xs) a)
    may = let l = length-take-le i xs (omega arith) in may_list_new a (take i xs) (omega arith)

    pub refused : may_list a (map due_item (take i xs)) ≡ false → entry_fault m [] 0 xs ≡ Some (Store ListEntry i)
    refused e = sym here ∙ cond-true _ _ _ (not-false _ (sym may ∙ e))

    pub unknown_entry : may_list a (map due_item (take i xs)) ≡ true → is_some (m a) ≡ false → entry_fault m [] 0 xs ≡ Some (Store UnknownActor i)
    unknown_entry e k = sym here ∙ cond-false _ _ _ (not-true _ (sym may ∙ e)) ∙ cond-false _ _ _ k

    pub next : may_list a (map due_item (take i xs)) ≡ true → is_some (m a) ≡ true → entry_fault m (take (i + 1) xs) (i + 1) (drop (i + 1) xs) ≡ entry_fault m [] 0 xs
    next e k = sym (cond-true _ _ _ k) ∙ sym (cond-false _ _ _ (not-true _ (sym may ∙ e))) ∙ here

    pub listed : (id : ℕ) → listing a (new_switch id (take i xs)) ≡ new_switch id (take (i + 1) xs)
    listed id =
        ap (λ (items : List Item). with_marks items Due (new_switch id [])) (sym (map-append due_item (take i xs) (a ∷ [])))
        ∙ ap (new_switch id) (sym (take_more xs i 0 h))
