-- What compose tells, and how long its packet is.
use Rattle.std.specs.Prelude.{ℕ, ◌+◌, ◌*◌, cond, Ok, Err, Result}
use Rattle.fault.specs.declared.Fault.{Fault}
use Rattle.model.specs.Composing.{Composition, outstanding_actors}
use Rattle.model.specs.Marks.{is_outstanding}
use Rattle.model.specs.Models.{Step, SwitchModel}
use Rattle.hub.specs.declared.composition.Composed.{Composed}

-- the descriptor, twelve bytes for each outstanding actor, and eight for an outstanding control word
abbrev pub packet_length : SwitchModel → ℕ
packet_length m = 16 + 12 * outstanding_actors m.items + cond (is_outstanding m.mark) 8 0

-- What compose tells, with the slip for its switch; a refusal as it is.
abbrev pub composition : ℕ → Step Composition → Result Composed Fault
composition id (Ok p) = Ok (record { length = p.0.size; actors = p.0.actors; slip = record { switch = id; number = p.0.number } })
composition id (Err e) = Err e
