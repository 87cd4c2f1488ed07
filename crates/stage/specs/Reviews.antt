-- Whether the outcomes of a script were those that it wants.
use Rattle.std.specs.Prelude.{ℕ, Bool, false, not, ◌||◌, List, Some, None, Option, string_bytes}
use Rattle.std.specs.Option.{option_map}
use Rattle.std.specs.Str.{bytes_eq}
use Rattle.stage.specs.Outcomes.{is_mistake, outcome_text}
use Rattle.stage.specs.declared.outcome.Outcome.{Outcome}
use Rattle.stage.specs.declared.outcome.Outcome.TheVariants as outcome
use Rattle.stage.specs.declared.review.Review.{Review}

-- What the line before was told, until that was asked for; whether it was told of a mistake; and whether an outcome before came
-- that was not wanted.
pub record Reviewed : Type 0 where
  pub told : Option (List ℕ)
  pub mistaken : Bool
  pub failed : Bool

abbrev pub review_of : Review → Reviewed
review_of r = record { told = option_map string_bytes r.told; mistaken = r.mistaken; failed = r.failed }

-- an outcome is told; a mistake that nobody wanted is a failure
abbrev pub told_now : Outcome → Reviewed → Reviewed
told_now o r = record { told = Some (outcome_text o); mistaken = is_mistake o; failed = r.failed || r.mistaken }

abbrev pub asked : List ℕ → Option (List ℕ) → Reviewed → Reviewed
asked wanted None r = told_now outcome.Unasked r
asked wanted (Some told) r = record { told = None; mistaken = false; failed = r.failed || not (bytes_eq told wanted) }

-- an outcome is wanted of the line before
abbrev pub wanted_now : List ℕ → Reviewed → Reviewed
wanted_now wanted r = asked wanted r.told r

-- so the script ends with status 1
abbrev pub ends_badly : Reviewed → Bool
ends_badly r = r.failed || r.mistaken
