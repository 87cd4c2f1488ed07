-- A whole payload: its descriptor, then its messages.
use Rattle.std.specs.Prelude.{ℕ, ◌+◌, List, drop, Ok, Err, Result}
use Rattle.fault.specs.declared.Fault.{Fault}
use Rattle.packet.specs.declared.message.Message.{Message}
use Rattle.packet.specs.declared.descriptor.Descriptor.{Descriptor}
use Rattle.packet.specs.declared.packet.Packet.{Packet}
use Rattle.packet.specs.Words.{descriptor_of}
use Rattle.packet.specs.Messages.{messages_of, understood}

-- the messages of a payload from an offset on
abbrev pub messages_from : List ℕ → ℕ → Result (List (ℕ × Message)) Fault
messages_from s place = messages_of (drop place s) 0 place

-- the descriptor's check comes first, then the messages'
abbrev pub behind : Result Descriptor Fault → Result (List (ℕ × Message)) Fault → Result (Descriptor × List (ℕ × Message)) Fault
behind (Err e) ms = Err e
behind (Ok d) (Err e) = Err e
behind (Ok d) (Ok ms) = Ok (d, ms)

-- What a payload says, or the first check that fails.
abbrev pub reading_of : List ℕ → Result (Descriptor × List (ℕ × Message)) Fault
reading_of s = behind (descriptor_of s) (messages_from s 16)

-- its descriptor and the count of understood messages
abbrev pub packet_of : Result (Descriptor × List (ℕ × Message)) Fault → Result Packet Fault
packet_of (Err e) = Err e
packet_of (Ok p) = Ok (record { descriptor = p.0; understood = understood p.1 })

-- the count alone
abbrev pub count_of : Result (List (ℕ × Message)) Fault → Result ℕ Fault
count_of (Err e) = Err e
count_of (Ok ms) = Ok (understood ms)

-- a count, with those that came before
abbrev pub counted_on : ℕ → Result ℕ Fault → Result ℕ Fault
counted_on before (Err e) = Err e
counted_on before (Ok n) = Ok (before + n)
