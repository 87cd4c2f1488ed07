-- However a switch's messages are dealt over accepted events, the hub and the total are those of the messages end to end.
use Rattle.std.proofs.Common.{◌≡◌, ℕ, ◌+◌, List, [], ◌∷◌, ◌++◌, sym, refl, ap, ◌∙◌, ap₂, arith}
use Rattle.packet.specs.declared.message.Message.{Message}
use Rattle.model.specs.Models.{HubModel}
use Rattle.model.specs.Taking.{heard_message}
use Rattle.law.specs.Law as law
use Rattle.law.specs.Law.{Dealing, Dealt}
use Rattle.law.proofs.Taken.{count_known, event_is, hear_all}

hear_append : (s : ℕ) (xs ys : List Message) (h : HubModel) → hear_all s (xs ++ ys) h ≡ hear_all s ys (hear_all s xs h)
unfolding hear_all
hear_append s [] ys h = refl
hear_append s (x ∷ xs) ys h = hear_append s xs ys (heard_message s x h)

count_append : (xs ys : List Message) → count_known (xs ++ ys) ≡ count_known xs + count_known ys
unfolding count_known
count_append [] ys = omega arith
count_append (x ∷ xs) ys = let ih : count_known (xs ++ ys) ≡ count_known xs + count_known ys = count_append xs ys in omega arith

dealt_is : {s : ℕ} {h : HubModel} {ms : List Message} {g : HubModel} {n : ℕ} → Dealt s h ms g n → (g ≡ hear_all s ms h) × (n ≡ count_known ms)
unfolding hear_all count_known
dealt_is law.Dealt.nothing = (refl, refl)
dealt_is {s} {h} (law.Dealt.packet {ms} {g} {n} dealt payload d more told count k said from zero taken) =
    let ih = dealt_is dealt in
    let x = event_is g payload d more told count k said zero taken in (
      x.after ∙ ap₂ (λ (i : ℕ) (j : HubModel). hear_all i more j) from ih.0 ∙ sym (hear_append s ms more h),
      ap₂ ◌+◌ ih.1 x.counted ∙ sym (count_append ms more),
    )

pub dealing : Dealing
dealing s h h' same ms g g' n n' one other =
    let x = dealt_is one in
    let y = dealt_is other in
    (x.0 ∙ ap (hear_all s ms) same ∙ sym y.0, x.1 ∙ sym y.1)
