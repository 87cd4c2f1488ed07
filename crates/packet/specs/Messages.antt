-- The messages of a payload, each with its offset, or the first fault.
use Rattle.std.specs.Prelude.{ℕ, zero, suc, pred, ◌+◌, Bool, true, false, cond, List, [], ◌∷◌, Some, None, Ok, Err, Option, Result, slice_index}
use Rattle.fault.specs.declared.Fault.{Fault}
use Rattle.kind.specs.Layout.{read_of}
use Rattle.kind.specs.Kinds.{state, control, edit_value, real_value, event, temperature}
use Rattle.packet.specs.declared.message.Record.{Record}
use Rattle.packet.specs.declared.message.Record.TheVariants.{State, Control, EditValue, RealValue, Event, Temperature}
use Rattle.packet.specs.declared.message.Message.{Message}
use Rattle.packet.specs.declared.message.Message.TheVariants.{Known, Unknown}

abbrev pub is_known : Message → Bool
is_known (Known r) = true
is_known (Unknown ident) = false

-- One kind's turn at a message: told as its record, left to the kinds after it, or refused.
abbrev pub tried : {R : Type 0} → (ℕ → R → Record) → Result (Option (ℕ × R)) Fault → Result Message Fault → Result Message Fault
tried f (Ok (Some p)) others = Ok (Known (f p.0 p.1))
tried f (Ok None) others = others
tried f (Err e) others = Err e

-- The message that begins s, which stands at a place in its payload: read by the kind that it is of, or passed over as none of them.
abbrev pub message_of : List ℕ → ℕ → Result Message Fault
message_of s place =
    tried (λ _ r. State r) (read_of state s place)
    (tried (λ _ r. Control r) (read_of control s place)
    (tried EditValue (read_of edit_value s place)
    (tried RealValue (read_of real_value s place)
    (tried Event (read_of event s place)
    (tried (λ _ r. Temperature r) (read_of temperature s place)
    (Ok (Unknown (slice_index s 1))))))))

-- a message and what follows it, unless one of them fails: the first failure counts
abbrev pub followed : ℕ → Result Message Fault → Result (List (ℕ × Message)) Fault → Result (List (ℕ × Message)) Fault
followed place (Err e) more = Err e
followed place (Ok m) (Err e) = Err e
followed place (Ok m) (Ok ms) = Ok ((place, m) ∷ ms)

-- The messages of what is left of a payload, whose first `skip` bytes belong to a message already read. They follow without gaps:
-- the next one begins where the MessageLength of the last one ends.
unfoldable pub messages_of : List ℕ → ℕ → ℕ → Result (List (ℕ × Message)) Fault
messages_of [] skip place = Ok []
messages_of (b ∷ s) (suc skip) place = messages_of s skip (place + 1)
messages_of (b ∷ s) zero place = followed place (message_of (b ∷ s) place) (messages_of s (pred b) (place + 1))

-- how many of them are understood
abbrev pub understood : List (ℕ × Message) → ℕ
understood [] = 0
understood (m ∷ ms) = cond (is_known m.1) 1 0 + understood ms
