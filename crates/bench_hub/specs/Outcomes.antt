-- The ten bytes of an outcome: a tag, a number, and the words p, x, y and z.
use Rattle.std.specs.Prelude.{ℕ, ◌%◌, List, ◌∷◌, ◌++◌}
use Rattle.fault.specs.Table.{number_of, place_of}
use Rattle.kind.specs.Layout.{word_bytes}
use Rattle.bench_hub.specs.declared.outcome.Outcome.{Outcome}
use Rattle.bench_hub.specs.declared.outcome.Outcome.TheVariants.{Done, Refused, Idle}
use Rattle.bench_hub.specs.declared.outcome.Told.{Told}

-- for a call that tells nothing
abbrev pub untold : Told
untold = record { x = 0; y = 0; z = 0 }

abbrev pub row_bytes : ℕ → ℕ → ℕ → Told → List ℕ
row_bytes tag number place t = tag ∷ (number ∷ (word_bytes place ++ (word_bytes t.x ++ (word_bytes t.y ++ word_bytes t.z))))

-- done, refused, or nothing was done
abbrev pub outcome_bytes : Outcome → List ℕ
outcome_bytes (Done told) = row_bytes 0 0 0 told
outcome_bytes (Refused fault) = row_bytes 1 (number_of fault) (place_of fault % 65536) untold
outcome_bytes Idle = row_bytes 2 0 0 untold
