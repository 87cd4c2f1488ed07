-- More examples worked out by hand: what a settled switch tells, what is due all the same, and a packet that is withheld.
use Rattle.std.specs.Prelude.{◌≡◌, ℕ, List, [], ◌∷◌, ◌++◌, pos, Some, None, Ok, Err}
use Rattle.fault.specs.declared.Fault.TheVariants.{Call}
use Rattle.fault.specs.declared.CallFault.TheVariants as call
use Rattle.model.specs.declared.mark.Mark.TheVariants.{Settled, Due}
use Rattle.model.specs.declared.told.Arrival.TheVariants.{Stale}
use Rattle.model.specs.Composing.{compose, number_after, sent, withheld}
use Rattle.model.specs.Models.{HubModel, answer_of, hub_after}
use Rattle.model.specs.Questions.{actor_mark, control_mark, flags_of, reading_at}
use Rattle.model.specs.Settings.{set_control, set_value}
use Rattle.model.specs.Taking.{take_payload}
use Rattle.store.specs.declared.actor_store.Half.TheVariants.{Actual}
use Rattle.store.specs.Meaning.{read_answer}
use Rattle.worked.specs.Examples.{answered, awaited_at, away, event_of, packet, room, warm, written}

-- the hub after an event of switch 7 with these messages, once its actor 2 and its control word are settled
abbrev pub told_by : List ℕ → HubModel
told_by messages = hub_after answered (take_payload answered (event_of 0x0201 messages))

-- a State with these low eight flags, and with three more bytes alike
abbrev pub state_of : ℕ → ℕ → List ℕ
state_of low high = 0x08 ∷ 0x01 ∷ 0 ∷ 0 ∷ low ∷ high ∷ high ∷ high ∷ []

-- package 1 written, and then withheld
abbrev pub brought_back : HubModel
brought_back = hub_after written (withheld written 7 1)

pub record StepExamples : Type 0 where
  -- InitRequest is bit 6 of State, and no other; it makes the actors and the control word due, and leaves the awaited number
  pub init_request_actor : actor_mark (told_by (state_of 0x40 0)) 7 2 ≡ Ok Due
  pub init_request_control : control_mark (told_by (state_of 0x40 0)) 7 ≡ Ok Due
  pub other_flags_actor : actor_mark (told_by (state_of 0xBF 0xFF)) 7 2 ≡ Ok Settled
  pub other_flags_control : control_mark (told_by (state_of 0xBF 0xFF)) 7 ≡ Ok Settled
  pub keeps_flags : flags_of (told_by (state_of 0xFF 0xFF)) 7 ≡ Ok 0x1F0F18FF
  pub init_request_awaits : awaited_at (hub_after away (take_payload away (event_of 0x0201 (state_of 0x40 0)))) 7 ≡ Ok (Some 1)
  -- an absent reading replaces the one before it
  pub absent_reading : reading_at (told_by (warm ++ (0x08 ∷ 0x71 ∷ 0 ∷ 0 ∷ 0x01 ∷ 0x01 ∷ 2 ∷ 0 ∷ []))) 7 ≡ Ok None
  -- a forbidden target of a listed actor does nothing; its neighbour is stored
  pub forbidden_target : actor_mark (told_by (0x06 ∷ 0x42 ∷ 2 ∷ 0 ∷ 0xFF ∷ 0x7F ∷ [])) 7 2 ≡ Ok Settled
  pub greatest_target : read_answer (told_by (0x06 ∷ 0x42 ∷ 2 ∷ 0 ∷ 0xFE ∷ 0x7F ∷ [])).store 2 ≡ Ok (pos 0, pos 32766)
  -- a value set again and a control word set again are due all the same
  pub same_value_due : actor_mark (hub_after answered (set_value answered 2 Actual (pos 0))) 7 2 ≡ Ok Due
  pub same_control_due : control_mark (hub_after answered (set_control answered 7 0x130)) 7 ≡ Ok Due
  -- an answer to nothing awaited is stale, and counted
  pub second_answer_stale : answer_of (take_payload answered packet) ≡ Ok (Stale, 5)
  -- withheld: what was under way is due, nothing is awaited, the slip is spent, and the number is not used again
  pub withholds : answer_of (withheld written 7 1) ≡ Ok tt
  pub withheld_actor : actor_mark brought_back 7 1 ≡ Ok Due
  pub withheld_control : control_mark brought_back 7 ≡ Ok Due
  pub withheld_awaits_nothing : awaited_at brought_back 7 ≡ Ok None
  pub slip_spent : answer_of (sent brought_back 7 1) ≡ Err (Call call.NoSlip 0)
  pub other_slip : answer_of (sent written 7 2) ≡ Err (Call call.NoSlip 0)
  pub slip_open : answer_of (compose written 7 room) ≡ Err (Call call.SlipOpen 0)
  pub next_number : answer_of (compose brought_back 7 room) ≡ Ok (record { size = 48; actors = 2; number = 2 })
  pub number_round : number_after 65535 ≡ 1
