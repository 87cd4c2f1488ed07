-- The messages of a payload, one step after another.
use Rattle.std.proofs.Common.{◌≡◌, ℕ, zero, suc, pred, ◌+◌, ◌-◌, ◌<◌, ◌≤◌, cond, List, [], ◌∷◌, length, get_or, take, drop, Ok, Err, Result, sym, refl, ap, ◌∙◌, add-zero, arith}
use Rattle.std.proofs.lemmas.List.{take_rest}
use Rattle.fault.specs.declared.Fault.{Fault}
use Rattle.packet.specs.declared.message.Message.{Message}
use Rattle.packet.specs.Messages.{followed, is_known, message_of, messages_of}
use Rattle.packet.specs.Reading.{count_of, counted_on}

skipped : (s : List ℕ) (n place : ℕ) → n ≤ length s → messages_of s n place ≡ messages_of (drop n s) 0 (place + n)
unfolding messages_of
skipped [] zero place h = refl
skipped [] (suc n) place h = absurd (omega arith)
skipped (x ∷ s) zero place h = ap (messages_of (x ∷ s) 0) (sym (add-zero place))
skipped (x ∷ s) (suc n) place h = skipped s n (place + 1) (omega arith) ∙ ap (messages_of (drop n s) 0) (omega arith)

pub none_left : (s : List ℕ) (place : ℕ) → length s ≡ 0 → messages_of s 0 place ≡ Ok []
unfolding messages_of
none_left [] place h = refl
none_left (x ∷ s) place h = absurd (omega arith)

-- a whole message, and then what follows it
pub one_then : (s : List ℕ) (place : ℕ) → 0 < get_or s 0 0 → get_or s 0 0 ≤ length s
    → messages_of s 0 place ≡ followed place (message_of s place) (messages_of (drop (get_or s 0 0) s) 0 (place + get_or s 0 0))
unfolding messages_of
one_then [] place l h = absurd (omega arith)
one_then (zero ∷ s) place l h = absurd (omega arith)
one_then (suc n ∷ s) place l h =
    ap (followed place (message_of (suc n ∷ s) place)) (skipped s n (place + 1) (omega arith) ∙ ap (messages_of (drop n s) 0) (omega arith))

-- a message that does not read ends the reading
pub stops : (s : List ℕ) (place : ℕ) (e : Fault) → 0 < length s → message_of s place ≡ Err e → messages_of s 0 place ≡ Err e
unfolding messages_of
stops [] place e h p = absurd (omega arith)
stops (x ∷ s) place e h p = ap (λ r. followed place r (messages_of s (pred x) (place + 1))) p

-- one message more in a count
count_followed : (before place : ℕ) (m : Message) (ms : Result (List (ℕ × Message)) Fault)
    → counted_on before (count_of (followed place (Ok m) ms)) ≡ counted_on (before + cond (is_known m) 1 0) (count_of ms)
count_followed before place m (Ok ms) = ap Ok (omega arith)
count_followed before place m (Err e) = refl

-- a message and the count of what follows it, as the reader hands the rest on
pub one_more : (s : List ℕ) (place before n so_far : ℕ) (m : Message) → n ≡ get_or s 0 0 → so_far ≡ before + cond (is_known m) 1 0 → Ok m ≡ message_of s place → 4 ≤ n → n ≤ length s
    → counted_on so_far (count_of (messages_of (take (length s - n) (drop n s)) 0 (place + n))) ≡ counted_on before (count_of (messages_of s 0 place))
one_more s place before n so_far m e more p least whole =
    ap (λ (l : List ℕ). counted_on so_far (count_of (messages_of l 0 (place + n)))) (take_rest s n)
    ∙ ap (λ (i : ℕ). counted_on so_far (count_of (messages_of (drop i s) 0 (place + i)))) e
    ∙ ap (λ (k : ℕ). counted_on k (count_of (messages_of (drop (get_or s 0 0) s) 0 (place + get_or s 0 0)))) more
    ∙ sym (ap (λ r. counted_on before (count_of r)) (one_then s place (omega arith) (omega arith) ∙ ap (λ x. followed place x (messages_of (drop (get_or s 0 0) s) 0 (place + get_or s 0 0))) (sym p))
    ∙ count_followed before place m (messages_of (drop (get_or s 0 0) s) 0 (place + get_or s 0 0)))
