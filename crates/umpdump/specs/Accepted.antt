-- What a line of the capture is taken for: a packet of so many bytes, or the first check that fails.
use Rattle.std.specs.Prelude.{ℕ, List, take, Ok, Err, Result}
use Rattle.fault.specs.declared.Fault.{Fault}
use Rattle.packet.specs.declared.packet.Packet.{Packet}
use Rattle.packet.specs.Reading.{packet_of, reading_of}

abbrev pub sized : ℕ → Result Packet Fault → Result (ℕ × Packet) Fault
sized n (Ok packet) = Ok (n, packet)
sized n (Err e) = Err e

-- what the digits tell comes first, then the payload that they leave in the buffer
abbrev pub accepted_of : Result ℕ Fault → List ℕ → Result (ℕ × Packet) Fault
accepted_of (Err e) buf = Err e
accepted_of (Ok n) buf = sized n (packet_of (reading_of (take n buf)))
