-- The slip of a packet that was just composed is owed.
use Rattle.std.proofs.Common.{rules, ◌≡◌, ℕ, true, List, is_ok, Ok, Err, Result, sym, refl, ap, ◌∙◌}
use Rattle.std.specs.Result.{IsOk}
use Rattle.fault.specs.declared.Fault.{Fault}
use Rattle.model.specs.Composing.{Composition, compose, sent}
use Rattle.model.specs.Models.{HubModel, Step, hub_after}
use Rattle.hub.specs.Compositions.{composition}
use Rattle.hub.specs.declared.composition.Composed.{Composed}
use Rattle.hub.specs.Slips.{SlipModel, slip_answer}
use Rattle.packet.proofs.Spelling.{same_answer}
use Rattle.law.proofs.Elements.{err≢ok}
use Rattle.law.proofs.Granted.{slip_is_owed}

pub owed : (h : HubModel) (id : ℕ) (buf : List ℕ) (told : Composed) (after : HubModel) → Ok told ≡ composition id (compose h id buf) → after ≡ hub_after h (compose h id buf)
    → is_ok (sent after told.slip.switch told.slip.number) ≡ true
owed h id buf told after answer now = go (compose h id buf) refl answer now
  where
    go : (r : Step Composition) → compose h id buf ≡ r → Ok told ≡ composition id r → after ≡ hub_after h r → is_ok (sent after told.slip.switch told.slip.number) ≡ true
    go (Err e) q p s = absurd (err≢ok (sym p))
    go (Ok x) q p s =
        ap (λ (t : Composed). is_ok (sent after t.slip.switch t.slip.number)) (same_answer _ _ p)
        ∙ ap (λ (k : HubModel). is_ok (sent k id x.0.number)) s
        ∙ slip_is_owed h id buf x.0 x.1 q

-- a hand-in that the hub grants
pub granted : (slip : SlipModel) (s : Step Unit) (r : Result Unit (Fault × SlipModel)) → is_ok s ≡ true → r ≡ slip_answer slip s → IsOk r
granted slip (Ok p) r k e = search rules
granted slip (Err f) r k e = search rules

-- so the hub takes it
pub accepted : (h : HubModel) (id : ℕ) (buf : List ℕ) (told : Composed) (after : HubModel) → Ok told ≡ composition id (compose h id buf) → after ≡ hub_after h (compose h id buf)
    → (r : Result Unit (Fault × SlipModel)) → r ≡ slip_answer told.slip (sent after told.slip.switch told.slip.number) → IsOk r
accepted h id buf told after answer now r e = granted told.slip (sent after told.slip.switch told.slip.number) r (owed h id buf told after answer now) e
