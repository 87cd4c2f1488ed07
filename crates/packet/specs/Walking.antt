-- A cursor over a payload: one message at a time, each with its offset.
use Rattle.std.specs.Prelude.{◌≡◌, ℕ, ◌+◌, cond, List, [], ◌∷◌, length, drop, Some, None, Ok, Err, Option, Result, nat_lt, slice_index}
use Rattle.fault.specs.declared.Fault.{Fault}
use Rattle.packet.specs.declared.message.Message.{Message}
use Rattle.packet.specs.Messages.{message_of}
use Rattle.packet.specs.Reading.{messages_from}

-- a payload, and the place in it from which messages are left to read
pub record Walk : Type 0 where
  pub payload : List ℕ
  pub place : ℕ

abbrev pub placed : ℕ → Result Message Fault → Result (Option (ℕ × Message)) Fault
placed place (Ok m) = Ok (Some (place, m))
placed place (Err e) = Err e

-- what the cursor answers at a place: the message there, nothing at the end, or the fault
abbrev pub next_of : List ℕ → ℕ → Result (Option (ℕ × Message)) Fault
next_of s place = cond (nat_lt place (length s)) (placed place (message_of (drop place s) place)) (Ok None)

abbrev pub advanced : ℕ → ℕ → Result Message Fault → ℕ
advanced place size (Ok m) = place + size
advanced place size (Err e) = place

-- where it stands then: behind the message, or where it stood
abbrev pub place_after : List ℕ → ℕ → ℕ
place_after s place = cond (nat_lt place (length s)) (advanced place (slice_index s place) (message_of (drop place s) place)) place

-- a message before those that follow it
abbrev pub ahead : ℕ × Message → Result (List (ℕ × Message)) Fault → Result (List (ℕ × Message)) Fault
ahead m (Ok ms) = Ok (m ∷ ms)
ahead m (Err e) = Err e

-- One step of a walk: what was left to read is the message that was answered and what is left now; nothing, at the end; or the fault.
-- So a walk from a payload's descriptor to its end gives exactly the messages of its reading.
abbrev pub Walked : List ℕ → ℕ → ℕ → Result (Option (ℕ × Message)) Fault → Type 0
Walked s from to (Ok (Some m)) = messages_from s from ≡ ahead m (messages_from s to)
Walked s from to (Ok None) = messages_from s from ≡ Ok []
Walked s from to (Err e) = messages_from s from ≡ Err e
