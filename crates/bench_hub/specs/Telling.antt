-- What each answer tells, in the words x, y and z.
use Rattle.std.specs.Prelude.{ℕ, ◌/◌, ◌%◌, Bool, true, false, ℤ, Some, None, Ok, Err, Option, Result}
use Rattle.std.specs.Int.{w16, cast_unsigned}
use Rattle.fault.specs.declared.Fault.{Fault}
use Rattle.model.specs.declared.mark.Mark.{Mark}
use Rattle.model.specs.declared.mark.Mark.TheVariants.{Settled, Due, UnderWay}
use Rattle.model.specs.declared.told.Arrival.{Arrival}
use Rattle.model.specs.declared.told.Arrival.TheVariants.{Event, Answer, Stale}
use Rattle.model.specs.declared.told.KeyPress.{KeyPress}
use Rattle.bench_hub.specs.declared.outcome.Outcome.{Outcome}
use Rattle.bench_hub.specs.declared.outcome.Outcome.TheVariants.{Done, Refused}
use Rattle.bench_hub.specs.declared.outcome.Told.{Told}
use Rattle.bench_hub.specs.Outcomes.{untold}

abbrev pub outcome_of : {A : Type 0} → (A → Told) → Result A Fault → Outcome
outcome_of told (Ok answer) = Done (told answer)
outcome_of told (Err fault) = Refused fault

abbrev pub told_in : ℕ → ℕ → ℕ → Told
told_in x y z = record { x = x; y = y; z = z }

abbrev pub unit_told : Unit {0} → Told
unit_told u = untold

-- a payload: an event, the awaited answer or a stale one, and how many of its messages were understood
abbrev pub arrival_told : Arrival → ℕ → Told
arrival_told Event n = told_in 0 (n % 65536) 0
arrival_told Answer n = told_in 1 (n % 65536) 0
arrival_told Stale n = told_in 2 (n % 65536) 0

abbrev pub taken_told : Arrival × ℕ → Told
taken_told p = arrival_told p.0 p.1

abbrev pub mark_told : Mark → Told
mark_told Settled = told_in 0 0 0
mark_told Due = told_in 1 0 0
mark_told UnderWay = told_in 2 0 0

-- flags, the low word first
abbrev pub flags_told : ℕ → Told
flags_told flags = told_in (flags % 65536) (flags / 65536) 0

abbrev pub key_told : Option KeyPress → Told
key_told (Some press) = told_in press.actor press.key 1
key_told None = untold

abbrev pub reading_told : Option ℤ → Told
reading_told (Some tenths) = told_in (cast_unsigned w16 tenths) 0 1
reading_told None = untold

abbrev pub outstanding_told : Bool → Told
outstanding_told true = told_in 1 0 0
outstanding_told false = untold
