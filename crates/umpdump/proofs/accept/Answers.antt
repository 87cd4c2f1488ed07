use Rattle.std.proofs.Common.{◌≡◌, take, Ok, sym, ap, ◌∙◌, rules}
use native.Mathlib.Nat.{sub-zero}
use Rattle.hexadecimal.specs.Decoding.{decode_tells}
use Rattle.packet.specs.Reading.{packet_of, reading_of}
use Rattle.umpdump.proofs.Wholes.{accepts, reads}
use Rattle.umpdump.proofs.accept.Goals as goal

-- the payload that was read is the front of the buffer
read : (c : goal.In_ok-packet) → Ok c.in_ok-packet.packet ≡ packet_of (reading_of (take c.in_ok-length.length c.decode.new.out))
read c = simp sub-zero at c.in_ok-packet.ensures.answer

pub returns : goal.returns
returns c = record { answer = accepts _ _ _ _ (c.in_ok-length.ensures.answer ∙ ap (decode_tells c.args.line.now) c.requires.room) (read c); whole = (search rules, reads (take c.in_ok-length.length c.decode.new.out) _ (sym (read c))) }
