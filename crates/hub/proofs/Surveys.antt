-- The checking pass, one message after another.
use Rattle.std.proofs.Common.{◌≡◌, ℕ, ◌+◌, ◌≤◌, Bool, true, false, cond, List, [], is_ok, Some, None, Ok, Err, Option, Result, refl, ap₂, arith}
use Rattle.std.proofs.lemmas.Bool.{false≢true}
use Rattle.std.specs.Option.{option_or}
use Rattle.fault.specs.declared.Fault.{Fault}
use Rattle.packet.specs.declared.message.Message.{Message}
use Rattle.packet.specs.Messages.{is_known}
use Rattle.packet.specs.Walking.{ahead}
use Rattle.model.specs.declared.item.Item.{Item}
use Rattle.model.specs.Models.{HubModel}
use Rattle.model.specs.Taking.{first_unlisted, heard, heard_message, message_listed}
use Rattle.hub.specs.declared.arrival.Survey.{Survey}
use Rattle.hub.specs.Surveys.{heard_all, noted, survey_of}

-- a survey so far, and that of what is left
abbrev pub onto : Survey → Result Survey Fault → Result Survey Fault
onto s (Ok t) = Ok (record { understood = s.understood + t.understood; unlisted = option_or s.unlisted t.unlisted })
onto s (Err e) = Err e

abbrev survey : ℕ → Option ℕ → Survey
survey n u = record { understood = n; unlisted = u }

pub onto_end : (items : List Item) (s : Survey) → onto s (survey_of items (Ok [])) ≡ Ok s
unfolding first_unlisted
onto_end items s = ap₂ (λ (n : ℕ) (u : Option ℕ). Ok (survey n u)) (omega arith) (last s.unlisted)
  where
    last : (u : Option ℕ) → option_or u None ≡ u
    last (Some place) = refl
    last None = refl

first_of : (u f : Option ℕ) (listed : Bool) (place : ℕ) → option_or u (cond listed f (Some place)) ≡ option_or (option_or u (cond listed None (Some place))) f
first_of (Some p) f listed place = refl
first_of None f true place = refl
first_of None f false place = refl

-- one message more
pub onto_more : (items : List Item) (s : Survey) (place : ℕ) (m : Message) (rest : Result (List (ℕ × Message)) Fault)
    → onto s (survey_of items (ahead (place, m) rest)) ≡ onto (noted items place m s) (survey_of items rest)
unfolding first_unlisted
onto_more items s place m (Ok ms) =
    ap₂ (λ (n : ℕ) (u : Option ℕ). Ok (survey n u)) (omega arith) (first_of s.unlisted (first_unlisted items ms) (message_listed items m) place)
onto_more items s place m (Err e) = refl

pub noted_few : (items : List Item) (place : ℕ) (m : Message) (s : Survey) → (noted items place m s).understood ≤ s.understood + 1
noted_few items place m s = few (is_known m)
  where
    few : (known : Bool) → s.understood + cond known 1 0 ≤ s.understood + 1
    few true = omega arith
    few false = omega arith

-- The applying pass, one message after another.

pub ok_more : (place : ℕ) (m : Message) (rest : Result (List (ℕ × Message)) Fault) → is_ok (ahead (place, m) rest) ≡ true → is_ok rest ≡ true
ok_more place m (Ok ms) e = refl
ok_more place m (Err f) e = e

pub heard_more : (id place : ℕ) (m : Message) (rest : Result (List (ℕ × Message)) Fault) (h : HubModel) → is_ok (ahead (place, m) rest) ≡ true
    → heard_all id (ahead (place, m) rest) h ≡ heard_all id rest (heard_message id m h)
unfolding heard
heard_more id place m (Ok ms) h e = refl
heard_more id place m (Err f) h e = absurd (false≢true e)

pub heard_end : (id : ℕ) (h : HubModel) → heard_all id (Ok []) h ≡ h
unfolding heard
heard_end id h = refl
