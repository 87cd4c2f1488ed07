-- Questions: each tells something of one enrolled switch, and changes nothing.
use Rattle.std.specs.Prelude.{ℕ, Bool, ℤ, Ok, Option, Result}
use Rattle.std.specs.Option.{ok_or}
use Rattle.fault.specs.declared.ActorFault.TheVariants.{NotListed}
use Rattle.fault.specs.declared.Fault.{Fault}
use Rattle.fault.specs.declared.Fault.TheVariants.{Actor}
use Rattle.model.specs.declared.mark.Mark.{Mark}
use Rattle.model.specs.declared.told.KeyPress.{KeyPress}
use Rattle.model.specs.Composing.{has_outstanding}
use Rattle.model.specs.Models.{HubModel, SwitchModel, find_switch, mark_of_actor}
use Rattle.model.specs.Settings.{at_enrolled}

abbrev pub asked : {A : Type 0} → HubModel → ℕ → (SwitchModel → Result A Fault) → Result A Fault
asked h id f = at_enrolled (find_switch id h.switches) f

abbrev pub not_listed : Fault
not_listed = Actor NotListed 0

-- how the switch stands to an actor that it lists
abbrev pub actor_mark : HubModel → ℕ → ℕ → Result Mark Fault
actor_mark h id a = asked h id (λ m. ok_or (mark_of_actor a m.items) not_listed)

-- how it stands to its control word
abbrev pub control_mark : HubModel → ℕ → Result Mark Fault
control_mark h id = asked h id (λ m. Ok m.mark)

-- what it last reported: its flags, its latest key, its reading
abbrev pub flags_of : HubModel → ℕ → Result ℕ Fault
flags_of h id = asked h id (λ m. Ok m.report.flags)

abbrev pub key_of : HubModel → ℕ → Result (Option KeyPress) Fault
key_of h id = asked h id (λ m. Ok m.report.key)

abbrev pub reading_at : HubModel → ℕ → Result (Option ℤ) Fault
reading_at h id = asked h id (λ m. Ok m.report.reading)

-- whether any of its items is outstanding
abbrev pub outstanding_at : HubModel → ℕ → Result Bool Fault
outstanding_at h id = asked h id (λ m. Ok (has_outstanding m))
