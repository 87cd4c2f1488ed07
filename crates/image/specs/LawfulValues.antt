-- That no actor of a lawful block has a forbidden value.
use Rattle.std.specs.Prelude.{◌≡◌, ℕ, zero, suc, ◌*◌, ◌<◌, ◌≤◌, true, ◌⊎◌, List, Some, None, nat_le, refl}
use Rattle.std.proofs.Common.{ap, ◌∙◌, inl, inr}
use Rattle.std.proofs.Math.Nat.{not-suc-le-zero, le_of_suc-le-suc, le_trans, not-le_of_lt}
use Rattle.std.proofs.lemmas.Bool.{and_parts, leb-true, cond_both, cases_order}
use Rattle.store.specs.Meaning.{lawful_pair}
use Rattle.image.specs.Layout.{page_count, pair_at, has_actor, actors_of, lawful_values, lawful_frame, lawful_block}

pub block_parts : (bytes : List ℕ) → lawful_block bytes ≡ true → (lawful_frame bytes ≡ true) × (lawful_values bytes (4 * page_count bytes) ≡ true)
block_parts bytes h = and_parts (lawful_frame bytes) (lawful_values bytes (4 * page_count bytes)) h

pub actor_bounds : (n i : ℕ) → has_actor n i ≡ true → (1 ≤ i) × (i ≤ 4 * n)
actor_bounds n i h =
    let p = and_parts (nat_le 1 i) (nat_le i (4 * n)) h in
    (leb-true _ _ p.0, leb-true _ _ p.1)

pub value_lawful : (bytes : List ℕ) (n i : ℕ) → lawful_values bytes n ≡ true → 1 ≤ i → i ≤ n → lawful_pair (Some (pair_at bytes i)) ≡ true
value_lawful bytes zero i h o l = absurd (not-suc-le-zero (le_trans o l))
value_lawful bytes (suc n) i h o l = go (cases_order i (suc n)) (value_lawful bytes n i p.1 o)
  where
    p : (lawful_pair (Some (pair_at bytes (suc n))) ≡ true) × (lawful_values bytes n ≡ true)
    p = and_parts (lawful_pair (Some (pair_at bytes (suc n)))) (lawful_values bytes n) h

    go : (i ≡ suc n) ⊎ ((i < suc n) ⊎ (suc n < i)) → (i ≤ n → lawful_pair (Some (pair_at bytes i)) ≡ true) → lawful_pair (Some (pair_at bytes i)) ≡ true
    go (inl e) rest = ap (λ j. lawful_pair (Some (pair_at bytes j))) e ∙ p.0
    go (inr (inl k)) rest = rest (le_of_suc-le-suc k)
    go (inr (inr k)) rest = absurd (not-le_of_lt k l)

pub lawful_actors : (bytes : List ℕ) (i : ℕ) → lawful_block bytes ≡ true → lawful_pair (actors_of bytes i) ≡ true
lawful_actors bytes i h =
    cond_both (has_actor (page_count bytes) i) (Some (pair_at bytes i)) None (λ o. lawful_pair o ≡ true)
    (λ t. value_lawful bytes (4 * page_count bytes) i (block_parts bytes h).1 (actor_bounds _ i t).0 (actor_bounds _ i t).1) (λ _. refl)
