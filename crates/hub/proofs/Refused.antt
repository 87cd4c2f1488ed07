-- What each check that fails makes of taking a payload.
use Rattle.std.proofs.Common.{◌≡◌, ℕ, List, None, Some, Ok, Err, Result, sym, ap, ◌∙◌, arith}
use Rattle.std.proofs.lemmas.Bool.{cond-false, cond-true, eq-eqb, ne_eqb, not_from_false, not_from_true}
use Rattle.fault.specs.declared.Fault.{Fault}
use Rattle.fault.specs.declared.Fault.TheVariants.{Frame}
use Rattle.fault.specs.declared.FrameFault.TheVariants.{Project, Switch}
use Rattle.packet.specs.declared.message.Message.{Message}
use Rattle.packet.specs.declared.descriptor.Descriptor.{Descriptor}
use Rattle.packet.specs.Reading.{messages_from}
use Rattle.packet.specs.Words.{descriptor_of}
use Rattle.model.specs.Models.{HubModel, SwitchModel, find_switch}
use Rattle.model.specs.Taking.{take_from, take_messages, take_ours, take_payload}
use Rattle.hub.specs.Surveys.{survey_of}

pub words_refused : (h : HubModel) (s : List ℕ) (f : Fault) → Err f ≡ descriptor_of s → take_payload h s ≡ Err f
words_refused h s f e = ap (λ r. take_ours h r s) (sym e)

module _ (h : HubModel) (s : List ℕ) (d : Descriptor) (words : Ok d ≡ descriptor_of s) where
  pub project_refused : (d.project ≡ h.site.project → ⊥) → take_payload h s ≡ Err (Frame Project 8)
  project_refused other = ap (λ r. take_ours h r s) (sym words) ∙ cond-true _ _ _ (not_from_false _ (ne_eqb _ _ other))

  module _ (ours : d.project ≡ h.site.project) where
    from : take_payload h s ≡ take_from h (find_switch d.switch h.switches) d s
    from = ap (λ r. take_ours h r s) (sym words) ∙ cond-false _ _ _ (not_from_true _ (eq-eqb _ _ ours))

    pub switch_refused : None ≡ find_switch d.switch h.switches → take_payload h s ≡ Err (Frame Switch 12)
    switch_refused none = from ∙ ap (λ o. take_from h o d s) (sym none)

    pub messages_refused : (m : SwitchModel) (f : Fault) → Some m ≡ find_switch d.switch h.switches → Err f ≡ survey_of m.items (messages_from s 16) → take_payload h s ≡ Err f
    messages_refused m f enrolled refused = from ∙ ap (λ o. take_from h o d s) (sym enrolled) ∙ go (messages_from s 16) refused
      where
        go : (r : Result (List (ℕ × Message)) Fault) → Err f ≡ survey_of m.items r → take_messages h m d r ≡ Err f
        go (Ok ms) e = let z : ◌≡◌ {A = ℕ} 0 1 = cc in absurd (omega arith)
        go (Err x) e = cc
