-- Items that name actors, each one of its own, through every change of their marks.
use Rattle.std.proofs.Common.{◌≡◌, ℕ, Bool, true, false, cond, not, ◌&&◌, eqb, List, [], ◌∷◌, ◌++◌, map, refl, ap, ◌∙◌, ap₂, arith}
use Rattle.std.proofs.lemmas.Bool.{and_from, and_parts, not_from_false, or_from, or_parts}
use Rattle.model.specs.declared.item.Item.{Item}
use Rattle.model.specs.Models.{is_actor, lists_actor, moved_item, touched_item}
use Rattle.model.specs.declared.mark.Change.TheVariants.{Changed}
use Rattle.store.specs.Lists.{lists}
use Rattle.switch.specs.Items.{LawfulItems, actors_of, all_named, repeats}

named_map : (f : Item → Item) → ((x : Item) → (f x).actor ≡ x.actor) → (xs : List Item) → all_named (map f xs) ≡ all_named xs
named_map f keeps [] = refl
named_map f keeps (x ∷ xs) = ap₂ (λ (a : ℕ) (b : Bool). not (eqb a 0) && b) (keeps x) (named_map f keeps xs)

actors_map : (f : Item → Item) → ((x : Item) → (f x).actor ≡ x.actor) → (xs : List Item) → actors_of (map f xs) ≡ actors_of xs
actors_map f keeps [] = refl
actors_map f keeps (x ∷ xs) = ap₂ (λ (a : ℕ) (l : List ℕ). a ∷ l) (keeps x) (actors_map f keeps xs)

pub lawful_map : (f : Item → Item) → ((x : Item) → (f x).actor ≡ x.actor) → (xs : List Item) → LawfulItems xs → LawfulItems (map f xs)
lawful_map f keeps xs h = record { named = named_map f keeps xs ∙ h.named; distinct = ap repeats (actors_map f keeps xs) ∙ h.distinct }

pub touched_actor : (a : ℕ) (x : Item) → (touched_item a x).actor ≡ x.actor
touched_actor a x = ways (is_actor a x)
  where
    ways : (b : Bool) → (cond b (moved_item Changed x) x).actor ≡ x.actor
    ways true = refl
    ways false = refl

-- Listing one actor more.

either_way : (a b : ℕ) → eqb a b ≡ eqb b a
either_way a b = grind arith

named_more : (xs : List Item) (x : Item) → eqb x.actor 0 ≡ false → all_named xs ≡ true → all_named (xs ++ x ∷ []) ≡ true
named_more [] x e h = and_from _ _ (not_from_false _ e) refl
named_more (y ∷ xs) x e h =
    let p = and_parts (not (eqb y.actor 0)) (all_named xs) h in
    and_from _ _ p.0 (named_more xs x e p.1)

listed_more : (xs : List Item) (x : Item) (a : ℕ) → lists (actors_of xs) a ≡ false → eqb x.actor a ≡ false → lists (actors_of (xs ++ x ∷ [])) a ≡ false
listed_more [] x a h e = or_from _ _ e refl
listed_more (y ∷ xs) x a h e =
    let p = or_parts (eqb y.actor a) (lists (actors_of xs) a) h in
    or_from _ _ p.0 (listed_more xs x a p.1 e)

repeats_more : (xs : List Item) (x : Item) → repeats (actors_of xs) ≡ false → lists_actor x.actor xs ≡ false → repeats (actors_of (xs ++ x ∷ [])) ≡ false
repeats_more [] x h e = refl
repeats_more (y ∷ xs) x h e =
    let p = or_parts (lists (actors_of xs) y.actor) (repeats (actors_of xs)) h in
    let q = or_parts (eqb y.actor x.actor) (lists_actor x.actor xs) e in
    or_from _ _ (listed_more xs x y.actor p.0 (either_way x.actor y.actor ∙ q.0)) (repeats_more xs x p.1 q.1)

pub lawful_more : (xs : List Item) (x : Item) → eqb x.actor 0 ≡ false → lists_actor x.actor xs ≡ false → LawfulItems xs → LawfulItems (xs ++ x ∷ [])
lawful_more xs x named once h = record { named = named_more xs x named h.named; distinct = repeats_more xs x h.distinct once }
