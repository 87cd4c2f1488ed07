use Rattle.std.proofs.Common.{◌≡◌, ℕ, ◌<◌, ◌≤◌, true, false, List, ◌++◌, length, drop, is_some, Some, sym, ap, ◌∙◌, ap₂, arith}
use Rattle.packet.specs.declared.descriptor.Descriptor.{Descriptor}
use Rattle.packet.specs.Packets.{packet_bytes}
use Rattle.model.specs.Composing.{has_outstanding, packet_for, packet_over, records_for, words_for}
use Rattle.model.specs.declared.told.Numbers.{Numbers}
use Rattle.hub.specs.Compositions.{composition, packet_length}
use Rattle.hub.specs.Memory.{hub_model}
use Rattle.hub.proofs.Compositions.{compose_room, compose_short}
use Rattle.hub.proofs.Written.{packet_long}
use Rattle.hub.proofs.hub.Hub.write_for.Goals as goal

pub returns-then-buf-length : goal.returns-then-buf-length
returns-then-buf-length g c =
    let h = hub_model g.S.ActorStore.meaning c.args.self.now in
    let m = c.args.switch.now in
    let id = c.args.id in
    let buf = c.args.buf.now in
    let free : is_some m.numbers.slip ≡ false = ap (λ (n : Numbers). is_some n.slip) (sym c.numbers.ensures) ∙ sym c.if-is_some.ensures in
    let some : has_outstanding m ≡ true = sym c.if-not-has_outstanding.ensures in
    let short : length buf < packet_length m = omega (arith, c.if-buf-length.true, c.packet_length-length.ensures) in
    let told = compose_short h id buf m free some short in
    record {
      answer = sym (ap (composition id) told);
      unspent = tt;
      bytes = sym (ap (packet_over h (Some m) buf) told);
    }

pub returns-clause-bytes : goal.returns-clause-bytes
returns-clause-bytes g c =
    let h = hub_model g.S.ActorStore.meaning c.args.self.now in
    let m = c.args.switch.now in
    let id = c.args.id in
    let buf = c.args.buf.now in
    let free : is_some m.numbers.slip ≡ false = ap (λ (n : Numbers). is_some n.slip) (sym c.numbers.ensures) ∙ sym c.if-is_some.ensures in
    let some : has_outstanding m ≡ true = sym c.if-not-has_outstanding.ensures in
    let room : packet_length m ≤ length buf = omega (arith, c.if-buf-length.false, c.packet_length-length.ensures) in
    let long : packet_length m ≡ length (packet_for h m) = sym (packet_long (words_for h m) h.store m) in
    let written = ap (λ (w : Descriptor). packet_bytes w (records_for h.store m)) c.words_for.ensures.words in
    c.write_packet.ensures ∙ ap₂ (λ (p : List ℕ) (n : ℕ). p ++ drop n buf) written long ∙ sym (ap (packet_over h (Some m) buf) (compose_room h id buf m free some room))
