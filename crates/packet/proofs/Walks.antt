-- One step of a cursor, against the messages that were left.
use Rattle.std.proofs.Common.{◌≡◌, ℕ, ◌+◌, ◌-◌, ◌<◌, ◌≤◌, List, [], length, get_or, take, drop, IfOk, Ok, Err, Result, refl, ap, ◌∙◌, add-zero, arith}
use Rattle.std.proofs.lemmas.List.{drop-drop, get_or-drop, length-drop, take_rest}
use Rattle.fault.specs.declared.Fault.{Fault}
use Rattle.packet.specs.declared.message.Message.{Message}
use Rattle.packet.specs.Messages.{followed, message_of, messages_of}
use Rattle.packet.specs.Reading.{messages_from}
use Rattle.packet.specs.Walking.{Walked, advanced, ahead, placed}
use Rattle.packet.proofs.Steps.{none_left, one_then, stops}

pub none_from : (s : List ℕ) (place : ℕ) → length s ≤ place → messages_from s place ≡ Ok []
none_from s place h = none_left (drop place s) place (length-drop place s ∙ omega arith)

followed_ahead : (place : ℕ) (m : Message) (more : Result (List (ℕ × Message)) Fault) → followed place (Ok m) more ≡ ahead (place, m) more
followed_ahead place m (Ok ms) = refl
followed_ahead place m (Err e) = refl

-- the first byte of what is left, and its length
pub first_left : (s : List ℕ) (place : ℕ) → (get_or (drop place s) 0 0 ≡ get_or s place 0) × (length (drop place s) ≡ length s - place)
first_left s place = (get_or-drop place s 0 0 ∙ ap (λ (i : ℕ). get_or s i 0) (add-zero place), length-drop place s)

pub walked : (s : List ℕ) (place : ℕ) (x : Result Message Fault) → place < length s → message_of (drop place s) place ≡ x
    → IfOk x (λ _. (4 ≤ get_or s place 0) × (place + get_or s place 0 ≤ length s)) → Walked s place (advanced place (get_or s place 0) x) (placed place x)
walked s place (Err e) h is whole = let f = first_left s place in stops (drop place s) place e (omega arith) is
walked s place (Ok m) h is whole =
    let f = first_left s place in
    let low = whole.0 in
    let high = whole.1 in
    let n : ℕ = get_or (drop place s) 0 0 in
    one_then (drop place s) place (omega arith) (omega arith)
    ∙ ap (λ x. followed place x (messages_of (drop n (drop place s)) 0 (place + n))) is
    ∙ followed_ahead place m (messages_of (drop n (drop place s)) 0 (place + n))
    ∙ ap (λ (l : List ℕ). ahead (place, m) (messages_of l 0 (place + n))) (drop-drop n place s)
    ∙ ap (λ (i : ℕ). ahead (place, m) (messages_from s (place + i))) f.0

-- the same of a whole message, seen from the payload
pub whole_at : (s : List ℕ) (place : ℕ) (x : Result Message Fault) → place < length s
    → IfOk x (λ _. (4 ≤ get_or (take (length s - place) (drop place s)) 0 0) × (get_or (take (length s - place) (drop place s)) 0 0 ≤ length (take (length s - place) (drop place s))))
    → IfOk x (λ _. (4 ≤ get_or s place 0) × (place + get_or s place 0 ≤ length s))
whole_at s place (Err e) h w = tt
whole_at s place (Ok m) h w =
    let f = first_left s place in
    let e : get_or (take (length s - place) (drop place s)) 0 0 ≡ get_or s place 0 = ap (λ (l : List ℕ). get_or l 0 0) (take_rest s place) ∙ f.0 in
    let l : length (take (length s - place) (drop place s)) ≡ length s - place = ap length (take_rest s place) ∙ f.1 in
    let low = w.0 in
    let high = w.1 in
    (omega arith, omega arith)
