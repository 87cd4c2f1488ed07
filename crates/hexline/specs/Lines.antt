-- What the lines of a text are to the hub, and what they are answered with.
use Rattle.std.specs.Prelude.{ℕ, List, [], ◌∷◌, ◌++◌, Ok, Err, codes, decimal, Result}
use Rattle.fault.specs.declared.Fault.{Fault}
use Rattle.hexadecimal.specs.Decoding.{bytes_of, decode_tells}
use Rattle.model.specs.Models.{HubModel, Step, answer_of, hub_after}
use Rattle.model.specs.declared.told.Arrival.{Arrival}
use Rattle.model.specs.Taking.{arrival_name, take_payload}
use Rattle.hexline.specs.Refusals.{as_line, refused_text}

-- the hub takes the bytes that a line of digits spells; a line that spells none is refused, and leaves the hub as it was
abbrev pub take_spelt : HubModel → List ℕ → Result ℕ Fault → Step (Arrival × ℕ)
take_spelt h line (Ok n) = take_payload h (bytes_of line)
take_spelt h line (Err e) = Err e

abbrev pub hear : HubModel → List ℕ → Step (Arrival × ℕ)
hear h line = take_spelt h line (decode_tells line 1472)

-- what a line is answered with: the word and the count, or the number and the place of the refusal
abbrev pub heard_text : Result (Arrival × ℕ) Fault → List ℕ
heard_text (Ok p) = arrival_name p.0 ++ codes " " ++ decimal p.1
heard_text (Err e) = refused_text e

-- line by line, in order: the answers, each on a line of its own, and the hub that is left
abbrev pub heard_lines : HubModel → List (List ℕ) → List ℕ
heard_lines h [] = []
heard_lines h (line ∷ lines) = as_line (heard_text (answer_of (hear h line))) ++ heard_lines (hub_after h (hear h line)) lines

abbrev pub after_lines : HubModel → List (List ℕ) → HubModel
after_lines h [] = h
after_lines h (line ∷ lines) = after_lines (hub_after h (hear h line)) lines
