use Rattle.std.proofs.Common.{◌≡◌, ℕ, ◌-◌, List, length, take, drop, Ok, Err, Result, refl, ap, ◌∙◌, arith}
use Rattle.std.proofs.lemmas.List.{take_rest}
use Rattle.fault.specs.declared.Fault.{Fault}
use Rattle.packet.specs.Messages.{messages_of}
use Rattle.packet.specs.Reading.{count_of, counted_on}
use Rattle.packet.proofs.packet.count_behind.Goals as goal

none_before : (r : Result ℕ Fault) → counted_on 0 r ≡ r
none_before (Ok n) = ap Ok (omega arith)
none_before (Err e) = refl

pub returns : goal.returns
returns c =
    c.count_understood.ensures
    ∙ none_before (count_of (messages_of (take (length c.args.payload.now - 16) (drop 16 c.args.payload.now)) 0 16))
    ∙ ap (λ (l : List ℕ). count_of (messages_of l 0 16)) (take_rest c.args.payload.now 16)
