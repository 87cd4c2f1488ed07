-- What an accepted line comes to, and that the messages of its payload all read.
use Rattle.std.proofs.Common.{◌≡◌, ℕ, true, List, take, is_ok, Ok, Err, Result, refl, ap, ◌∙◌, arith}
use Rattle.fault.specs.declared.Fault.{Fault}
use Rattle.packet.specs.declared.message.Message.{Message}
use Rattle.packet.specs.declared.packet.Packet.{Packet}
use Rattle.packet.specs.declared.descriptor.Descriptor.{Descriptor}
use Rattle.packet.specs.Reading.{behind, messages_from, packet_of, reading_of}
use Rattle.packet.specs.Words.{descriptor_of}
use Rattle.umpdump.specs.Accepted.{accepted_of, sized}

behind_reads : (d : Result Descriptor Fault) (ms : Result (List (ℕ × Message)) Fault) (p : Packet) → packet_of (behind d ms) ≡ Ok p → is_ok ms ≡ true
behind_reads (Ok d) (Ok ms) p e = refl
behind_reads (Ok d) (Err f) p e = grind arith
behind_reads (Err f) (Ok ms) p e = refl
behind_reads (Err f) (Err g) p e = grind arith

pub reads : (s : List ℕ) (p : Packet) → packet_of (reading_of s) ≡ Ok p → is_ok (messages_from s 16) ≡ true
reads s p e = behind_reads (descriptor_of s) (messages_from s 16) p e

pub accepts : (told : Result ℕ Fault) (n : ℕ) (p : Packet) (buf : List ℕ) → Ok n ≡ told → Ok p ≡ packet_of (reading_of (take n buf)) → Ok (n, p) ≡ accepted_of told buf
accepts told n p buf h k = ap (sized n) k ∙ ap (λ t. accepted_of t buf) h
