-- Composing for a switch whose slip is in and for which something is outstanding: the buffer's length decides.
use Rattle.std.proofs.Common.{◌≡◌, ℕ, ◌<◌, ◌≤◌, true, false, not, ltb, List, length, is_some, Ok, Err, ap, ◌∙◌}
use Rattle.std.proofs.lemmas.Bool.{cond-false, cond-true, le-ltb, lt-ltb}
use Rattle.fault.specs.declared.CallFault.TheVariants.{ShortBuffer}
use Rattle.fault.specs.declared.Fault.TheVariants.{Call}
use Rattle.model.specs.Composing.{compose_for, composed, composition_for, has_outstanding, words_for}
use Rattle.model.specs.Models.{HubModel, SwitchModel, change_switch}
use Rattle.hub.specs.Compositions.{packet_length}
use Rattle.hub.proofs.Written.{packet_long}

module _ (h : HubModel) (id : ℕ) (buf : List ℕ) (m : SwitchModel) (free : is_some m.numbers.slip ≡ false) (some : has_outstanding m ≡ true) where
  pub compose_short : length buf < packet_length m → compose_for h id buf m ≡ Err (Call ShortBuffer 0)
  compose_short e =
      let long = packet_long (words_for h m) h.store m in
      cond-false _ _ _ free ∙ cond-false _ _ _ (ap not some) ∙ cond-true _ _ _ (ap (ltb (length buf)) long ∙ lt-ltb _ _ e)

  pub compose_room : packet_length m ≤ length buf → compose_for h id buf m ≡ Ok (composition_for h m, change_switch id composed h)
  compose_room e =
      let long = packet_long (words_for h m) h.store m in
      cond-false _ _ _ free ∙ cond-false _ _ _ (ap not some) ∙ cond-false _ _ _ (ap (ltb (length buf)) long ∙ le-ltb _ _ e)
