-- What a switch is told: the packet that is composed for it, which is handed in as sent.
use Rattle.std.specs.Prelude.{ℕ, List, replicate, take, Ok, Err}
use Rattle.hexadecimal.specs.Encoding.{digits_of}
use Rattle.model.specs.Composing.{Composition, compose, composed_bytes, sent}
use Rattle.model.specs.Models.{HubModel, Step, hub_after}
use Rattle.hexline.specs.Refusals.{as_line, refused_text}

-- room for the longest payload
abbrev pub room : List ℕ
room = replicate 1472 0

abbrev pub told_after : HubModel → ℕ → Step Composition → HubModel
told_after h id (Ok p) = hub_after p.1 (sent p.1 id p.0.number)
told_after h id (Err e) = h

abbrev pub told : HubModel → ℕ → HubModel
told h id = told_after h id (compose h id room)

-- the packet in digits, or why there is none
abbrev pub packet_text : List ℕ → Step Composition → List ℕ
packet_text bytes (Ok p) = digits_of (take p.0.size bytes)
packet_text bytes (Err e) = refused_text e

abbrev pub told_text : HubModel → ℕ → List ℕ
told_text h id = as_line (packet_text (composed_bytes h id room) (compose h id room))
