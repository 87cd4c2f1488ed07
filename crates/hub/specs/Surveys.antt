-- The checking pass over a payload's messages: how many are understood, and the first for an actor that the switch does not list.
use Rattle.std.specs.Prelude.{◌≡◌, ℕ, ◌+◌, cond, List, [], Some, None, Ok, Err, Option, Result}
use Rattle.std.specs.Option.{option_or}
use Rattle.fault.specs.declared.Fault.{Fault}
use Rattle.packet.specs.declared.message.Message.{Message}
use Rattle.packet.specs.Messages.{is_known, understood}
use Rattle.packet.specs.Reading.{messages_from}
use Rattle.packet.specs.Walking.{ahead}
use Rattle.model.specs.declared.item.Item.{Item}
use Rattle.model.specs.Models.{HubModel}
use Rattle.model.specs.Taking.{first_unlisted, heard, message_listed}
use Rattle.hub.specs.declared.arrival.Survey.{Survey}

abbrev pub survey_of : List Item → Result (List (ℕ × Message)) Fault → Result Survey Fault
survey_of items (Ok ms) = Ok (record { understood = understood ms; unlisted = first_unlisted items ms })
survey_of items (Err e) = Err e

-- The applying pass: the messages in order, where they all read.
abbrev pub heard_all : ℕ → Result (List (ℕ × Message)) Fault → HubModel → HubModel
heard_all id (Ok ms) h = heard id ms h
heard_all id (Err e) h = h

-- One message more in a survey.
abbrev pub noted : List Item → ℕ → Message → Survey → Survey
noted items place m s = record {
  understood = s.understood + cond (is_known m) 1 0;
  unlisted = option_or s.unlisted (cond (message_listed items m) None (Some place));
}

-- One message of the applying pass: it and what follows it are what was left to read; or nothing was left.
abbrev pub Heard : List ℕ → ℕ → ℕ → Option Message → Type 0
Heard s from to (Some m) = (place : ℕ) × (messages_from s from ≡ ahead (place, m) (messages_from s to))
Heard s from to None = messages_from s from ≡ Ok []
