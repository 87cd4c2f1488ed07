-- A list of actors read entry by entry, of which no more than its room is kept.
use Rattle.std.proofs.Common.{◌≡◌, ℕ, zero, suc, ◌+◌, ◌-◌, ◌<◌, ◌≤◌, Bool, true, false, cond, eqb, List, [], ◌∷◌, ◌++◌, length, take, drop, set, replicate, Ok, Err, Result, sym, refl, ap, ◌∙◌, append_assoc, arith}
use Rattle.std.proofs.Math.Seq.{set-append_seam, take-append_seam}
use Rattle.std.proofs.lemmas.List.{length-append, length-take, take_all, take-append-le}
use Rattle.hexadecimal.specs.Lines.{begun_with, length_to}
use Rattle.script.specs.Actors.{actors_in, actors_of}
use Rattle.script.specs.Lists.{before, numbers_in, parts_of}
use Rattle.script.specs.Parts.{short_read}
use Rattle.script.specs.Reasons.{Why, made}
use Rattle.script.specs.declared.actors.Actors.{Actors}
use Rattle.script.specs.declared.place.Place.{Place}

-- the entries of a list in memory, and of one that is laid out so
pub entries_of : (xs : List ℕ) → actors_in (actors_of xs) ≡ xs
entries_of xs = take-append_seam xs (replicate (257 - length xs) 0)

pub has_entries : (list : Actors) (xs : List ℕ) → list ≡ actors_of xs → actors_in list ≡ xs
has_entries list xs e = ap actors_in e ∙ entries_of xs

-- a list that is laid out of some entries is laid out of its own
pub is_laid : (list : Actors) (xs : List ℕ) → list ≡ actors_of xs → list ≡ actors_of (actors_in list)
is_laid list xs e = e ∙ ap actors_of (sym (has_entries list xs e))

abbrev longer : Actors → ℕ → Actors
longer list a = record { entries = set list.entries list.count a; count = list.count + 1 }

same_list : (list other : Actors) → list.entries ≡ other.entries → list.count ≡ other.count → list ≡ other
same_list list other e n = ap (λ (ys : List ℕ). record { entries = ys; count = list.count }) e ∙ ap (λ (k : ℕ). record { entries = other.entries; count = k }) n

-- an actor in place of the first zero
longer_of : (xs : List ℕ) (a room : ℕ) → length xs + suc room ≡ 257 → longer (actors_of xs) a ≡ actors_of (xs ++ a ∷ [])
longer_of xs a room few =
    let whole = length-append xs (a ∷ []) in
    let left : 257 - length xs ≡ suc room = omega arith in
    let rest : 257 - length (xs ++ a ∷ []) ≡ room = omega arith in
    same_list (longer (actors_of xs) a) (actors_of (xs ++ a ∷ [])) (rw (left, rest, append_assoc) (set-append_seam xs 0 (replicate room 0) a)) (sym whole)

-- one entry more
pub added : (list : Actors) (a : ℕ) → list ≡ actors_of (actors_in list) → list.count < 257 → longer list a ≡ actors_of (take 257 (actors_in list ++ a ∷ []))
added list a is few =
    let xs = actors_in list in
    let counted : list.count ≡ length xs = ap (λ (l : Actors). l.count) is in
    let whole = length-append xs (a ∷ []) in
    ap (λ (l : Actors). longer l a) is
    ∙ longer_of xs a (256 - length xs) (omega arith)
    ∙ ap actors_of (sym (take_all 257 (xs ++ a ∷ []) (omega arith)))

-- no room for it
pub left_out : (list : Actors) (a : ℕ) → list ≡ actors_of (actors_in list) → length list.entries ≡ 257 → 257 ≤ list.count → list ≡ actors_of (take 257 (actors_in list ++ a ∷ []))
left_out list a is room full =
    let xs = actors_in list in
    let counted : list.count ≡ length xs = ap (λ (l : Actors). l.count) is in
    let within = length-take list.count list.entries in
    is ∙ ap actors_of (sym (take-append-le 257 xs (a ∷ []) (omega arith) ∙ take_all 257 xs (omega arith)))

-- the parts of a text that is cut, and of one that is not
pub first_part : (sep : ℕ) (text : List ℕ) → length_to sep text < length text → parts_of sep text ≡ take (length_to sep text) text ∷ parts_of sep (drop (suc (length_to sep text)) text)
unfolding length_to parts_of
first_part sep [] h = absurd (omega arith)
first_part sep (b ∷ text) h = go (eqb b sep) h (first_part sep text)
  where
    go : (t : Bool) → cond t 0 (suc (length_to sep text)) < suc (length text)
        → (length_to sep text < length text → parts_of sep text ≡ take (length_to sep text) text ∷ parts_of sep (drop (suc (length_to sep text)) text))
        → cond t ([] ∷ parts_of sep text) (begun_with b (parts_of sep text))
        ≡ take (cond t 0 (suc (length_to sep text))) (b ∷ text) ∷ parts_of sep (drop (suc (cond t 0 (suc (length_to sep text)))) (b ∷ text))
    go true l ih = refl
    go false l ih = ap (begun_with b) (ih (omega arith))

pub one_part : (sep : ℕ) (text : List ℕ) → length text ≤ length_to sep text → parts_of sep text ≡ text ∷ []
unfolding length_to parts_of
one_part sep [] h = refl
one_part sep (b ∷ text) h = go (eqb b sep) h (one_part sep text)
  where
    go : (t : Bool) → suc (length text) ≤ cond t 0 (suc (length_to sep text)) → (length text ≤ length_to sep text → parts_of sep text ≡ text ∷ [])
        → cond t ([] ∷ parts_of sep text) (begun_with b (parts_of sep text)) ≡ (b ∷ text) ∷ []
    go true l ih = absurd (omega arith)
    go false l ih = ap (begun_with b) (ih (omega arith))

take_twice : (room : ℕ) (xs ys : List ℕ) → take room (take room xs ++ ys) ≡ take room (xs ++ ys)
take_twice zero xs ys = refl
take_twice (suc room) [] ys = refl
take_twice (suc room) (x ∷ xs) ys = ap (λ (zs : List ℕ). x ∷ zs) (take_twice room xs ys)

-- what a list gives, of which some entries are kept already
abbrev pub kept_with : List ℕ → Result (List ℕ) Why → Result (List ℕ) Why
kept_with kept r = made (λ (ns : List ℕ). take 257 (kept ++ ns)) r

-- one entry more of it is kept
pub entry_more : (kept : List ℕ) (n : ℕ) (r : Result (List ℕ) Why) → kept_with (take 257 (kept ++ n ∷ [])) r ≡ kept_with kept (before (Ok n) r)
entry_more kept n (Err e) = refl
entry_more kept n (Ok ns) = ap Ok (take_twice 257 (kept ++ n ∷ []) ns ∙ ap (take 257) (append_assoc kept (n ∷ []) ns))

-- the last entry
pub entry_last : (place : Place) (kept : List ℕ) (n : ℕ) → Ok (take 257 (kept ++ n ∷ [])) ≡ kept_with kept (before (Ok n) (numbers_in place []))
unfolding numbers_in
entry_last place kept n = refl

-- what the first part is, which decides how the reading goes on
pub first_entry : (place : Place) (kept : List ℕ) (r : Result ℕ Why) (part : List ℕ) (parts whole : List (List ℕ)) → whole ≡ part ∷ parts → r ≡ short_read place part
    → kept_with kept (before r (numbers_in place parts)) ≡ kept_with kept (numbers_in place whole)
unfolding numbers_in
first_entry place kept r part parts whole e w =
    ap (λ (p : Result ℕ Why). kept_with kept (before p (numbers_in place parts))) w ∙ sym (ap (λ (ps : List (List ℕ)). kept_with kept (numbers_in place ps)) e)
