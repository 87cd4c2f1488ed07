-- A block's frame and its actors' values, one by one.
use Rattle.std.specs.Prelude.{◌≡◌, ℕ, zero, suc, ◌+◌, ◌*◌, ◌≤◌, Bool, true, false, ◌&&◌, List, ◌++◌, length, take, Some, ◌==◌, nat_le, refl, ◌<◌}
use Rattle.std.proofs.Common.{sym, ap, ◌∙◌, MatchBool, arith}
use Rattle.std.proofs.lemmas.List.{get_or_append_left, get_or-take, take_at}
use Rattle.std.proofs.lemmas.Bool.{and_parts, and_from, leb-true, eqb-true, true≢false}
use Rattle.store.specs.Meaning.{lawful_pair}
use Rattle.store.specs.declared.actor_store.Half.TheVariants.{Target}
use Rattle.kind.specs.Layout.{word}
use Rattle.image.specs.Layout.{page_count, right_frame, right_count, right_length, length_of, place_of, pair_at, lawful_values, lawful_frame, block_in}
use Rattle.image.specs.LawfulValues.{value_lawful}

pub record Framed (bytes : List ℕ) : Type 0 where
  pub some : 1 ≤ page_count bytes
  pub few : page_count bytes ≤ 16
  pub long : length bytes ≡ length_of (page_count bytes)

pub framed : (bytes : List ℕ) → lawful_frame bytes ≡ true → Framed bytes
framed bytes h =
    let n = page_count bytes in
    let p = and_parts (right_count bytes) (right_length bytes) (and_parts (right_frame bytes) (right_count bytes && right_length bytes) h).1 in
    let q = and_parts (nat_le 1 n) (nat_le n 16) p.0 in
    let r = and_parts (length bytes == length_of n) (word bytes 2 == length_of n) p.1 in
    record { some = leb-true _ _ q.0; few = leb-true _ _ q.1; long = eqb-true _ _ r.0 }

-- the block at the front of its room
pub at_front : (bytes rest : List ℕ) → lawful_frame bytes ≡ true → block_in (bytes ++ rest) ≡ bytes
at_front bytes rest h =
    let f = framed bytes h in
    let g : page_count (bytes ++ rest) ≡ page_count bytes = get_or_append_left bytes rest 0 25 (omega arith) in
    ap (λ n. take (length_of n) (bytes ++ rest)) g ∙ take_at bytes rest (length_of (page_count bytes)) f.long

-- every value of an actor stands inside the block
pub inside : (n i : ℕ) → 1 ≤ i → i ≤ 4 * n → place_of Target i + 1 < length_of n
inside n i o m = omega arith

pub all_lawful : (bytes : List ℕ) (n : ℕ) → ((i : ℕ) → 1 ≤ i → i ≤ n → lawful_pair (Some (pair_at bytes i)) ≡ true) → lawful_values bytes n ≡ true
all_lawful bytes zero h = refl
all_lawful bytes (suc n) h =
    and_from (lawful_pair (Some (pair_at bytes (suc n)))) (lawful_values bytes n) (h (suc n) (omega arith) (omega arith)) (all_lawful bytes n (λ i o l. h i o (omega arith)))

-- no actor of 1 to n has a forbidden value, or one has
pub told_of_each : (bytes : List ℕ) (n : ℕ) (r : Bool) → MatchBool r ((i : ℕ) → 1 ≤ i → i ≤ n → lawful_pair (Some (pair_at bytes i)) ≡ true) ((i : ℕ) × (1 ≤ i) × (i ≤ n) × (lawful_pair (Some (pair_at bytes i)) ≡ false)) → r ≡ lawful_values bytes n
told_of_each bytes n true all = sym (all_lawful bytes n all)
told_of_each bytes n false k = go (lawful_values bytes n) refl
  where
    go : (b : Bool) → lawful_values bytes n ≡ b → false ≡ b
    go true e = absurd (true≢false (sym (value_lawful bytes n k.0 e k.1 k.2) ∙ k.3))
    go false e = refl

-- Page.Count stands in every block
pub count_in : (room : List ℕ) → page_count (block_in room) ≡ page_count room
count_in room = get_or-take (length_of (page_count room)) room 25 0 (omega arith)
