-- The room for a packet, as a script writes it.
use Rattle.std.specs.Prelude.{ℕ, List, Result}
use Rattle.std.specs.Option.{ok_or}
use Rattle.script.specs.Numbers.{number_in}
use Rattle.script.specs.Reasons.{Why, made, no_number}
use Rattle.script.specs.declared.call.Room.{Room}
use Rattle.script.specs.declared.place.Place.{Place}

abbrev pub room_of : ℕ → Room
room_of n = record { bytes = n }

-- no packet is longer than 1472 bytes
abbrev pub room_in : Place → List ℕ → Result ℕ Why
room_in place word = ok_or (number_in 1472 word) (no_number word place)

-- the room in memory that is read of it
abbrev pub room_read : Place → List ℕ → Result Room Why
room_read place word = made room_of (room_in place word)
