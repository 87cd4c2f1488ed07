-- A value that is put into a store, read back.
use Rattle.std.specs.Prelude.{ℕ, Bool, true, false, ℤ, Some, None, Ok, Err, Option, Result}
use Rattle.fault.specs.declared.Fault.{Fault}
use Rattle.store.specs.declared.actor_store.Half.{Half}
use Rattle.store.specs.Meaning.{Known, forbidden, forbidden_value, replaced, unknown_actor}

abbrev pub pair_back : Option (ℤ × ℤ) → Bool → Half → ℤ → Result (ℤ × ℤ) Fault
pair_back None bad h v = Err unknown_actor
pair_back (Some p) true h v = Err forbidden_value
pair_back (Some p) false h v = Ok (replaced h v p)

-- a put, then a read of the same actor: the pair with the new value in its half
abbrev pub read_back : Known → ℕ → Half → ℤ → Result (ℤ × ℤ) Fault
read_back m a h v = pair_back (m a) (forbidden v) h v
