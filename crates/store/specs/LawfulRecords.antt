-- That no record has a forbidden value, as records come and change.
use Rattle.std.specs.Prelude.{◌≡◌, ℕ, zero, suc, true, List, [], ◌∷◌, Some, ◌==◌, slice_set, refl}
use Rattle.std.specs.List.{insert}
use Rattle.std.proofs.lemmas.Bool.{and_parts, and_from, cond_both}
use Rattle.store.specs.Meaning.{lawful_pair}
use Rattle.store.specs.Records.{lookup, values, lawful_records}
use Rattle.store.specs.declared.table.Record.{Record}

parts : (r : Record) (rs : List Record) → lawful_records (r ∷ rs) ≡ true → (lawful_pair (Some (values r)) ≡ true) × (lawful_records rs ≡ true)
parts r rs h = and_parts (lawful_pair (Some (values r))) (lawful_records rs) h

join : (r : Record) (rs : List Record) → lawful_pair (Some (values r)) ≡ true → lawful_records rs ≡ true → lawful_records (r ∷ rs) ≡ true
join r rs l h = and_from (lawful_pair (Some (values r))) (lawful_records rs) l h

pub lawful_lookup : (rs : List Record) (a : ℕ) → lawful_records rs ≡ true → lawful_pair (lookup rs a) ≡ true
lawful_lookup [] a h = refl
lawful_lookup (r ∷ rs) a h =
    let p = parts r rs h in
    cond_both (r.actor == a) (Some (values r)) (lookup rs a) (λ o. lawful_pair o ≡ true) (λ _. p.0) (λ _. lawful_lookup rs a p.1)

module _ (new : Record) (l : lawful_pair (Some (values new)) ≡ true) where
  pub lawful_set : (rs : List Record) (i : ℕ) → lawful_records rs ≡ true → lawful_records (slice_set rs i new) ≡ true
  lawful_set [] i h = refl
  lawful_set (r ∷ rs) zero h = join new rs l (parts r rs h).1
  lawful_set (r ∷ rs) (suc i) h = join r (slice_set rs i new) (parts r rs h).0 (lawful_set rs i (parts r rs h).1)

  pub lawful_inserted : (rs : List Record) (i : ℕ) → lawful_records rs ≡ true → lawful_records (insert rs i new) ≡ true
  lawful_inserted rs zero h = join new rs l h
  lawful_inserted [] (suc i) h = join new [] l refl
  lawful_inserted (r ∷ rs) (suc i) h = join r (insert rs i new) (parts r rs h).0 (lawful_inserted rs i (parts r rs h).1)
