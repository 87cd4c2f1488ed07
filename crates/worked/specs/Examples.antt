-- Examples worked out by hand, as one fact about the definitions: what the hub's steps answer and leave, on given bytes.
use Rattle.std.specs.Prelude.{◌≡◌, ℕ, ◌+◌, List, [], ◌∷◌, ◌++◌, length, take, replicate, pos, negsuc, Some, None, Ok, Err, Option, Result}
use Rattle.fault.specs.declared.Fault.{Fault}
use Rattle.fault.specs.declared.Fault.TheVariants.{Frame, Message, Call}
use Rattle.fault.specs.declared.FrameFault.TheVariants as frame
use Rattle.fault.specs.declared.MessageFault.TheVariants as message
use Rattle.fault.specs.declared.CallFault.TheVariants as call
use Rattle.image.specs.Layout as image
use Rattle.kind.specs.Layout.{word_bytes}
use Rattle.model.specs.declared.mark.Mark.TheVariants.{Settled, Due, UnderWay}
use Rattle.model.specs.declared.told.Arrival.{Arrival}
use Rattle.model.specs.declared.told.Arrival.TheVariants.{Event, Answer}
use Rattle.model.specs.declared.told.Site.{Site}
use Rattle.model.specs.Composing.{compose, composed_bytes, sent}
use Rattle.model.specs.Models.{HubModel, answer_of, hub_after}
use Rattle.model.specs.Opening.{enrol, new_hub, opened}
use Rattle.model.specs.Questions.{actor_mark, asked, control_mark, reading_at}
use Rattle.model.specs.Settings.{set_control, set_value}
use Rattle.model.specs.Taking.{take_payload}
use Rattle.packet.specs.declared.message.Message.TheVariants.{Known}
use Rattle.packet.specs.declared.message.Record.TheVariants.{Temperature}
use Rattle.packet.specs.Messages.{message_of}
use Rattle.store.specs.declared.actor_store.Half.TheVariants.{Actual, Target}
use Rattle.store.specs.Lists.{zeros}
use Rattle.store.specs.Meaning.{read_answer}

-- The hub of the examples: actors 1 and 2 with values 0, switch 7 that lists both, and switch 8 that lists actor 2.

abbrev pub site : Site
site = record { version = 0x0201; project = 0x1234; firmware = 0; design = 5 }

abbrev pub empty : HubModel
empty = new_hub site (zeros (1 ∷ 2 ∷ []))

abbrev pub with_seven : HubModel
with_seven = hub_after empty (enrol empty 7 (1 ∷ 2 ∷ []))

abbrev pub hub : HubModel
hub = hub_after with_seven (enrol with_seven 8 (2 ∷ []))

-- an event of switch 7, with this FrameVersion and these messages
abbrev pub event_of : ℕ → List ℕ → List ℕ
event_of version messages =
    0x01 ∷ 0x86 ∷ word_bytes (16 + length messages) ++ (word_bytes version
    ++ (0 ∷ 0 ∷ 0x34 ∷ 0x12 ∷ 0 ∷ 0 ∷ 7 ∷ 0 ∷ 5 ∷ 0 ∷ messages))

-- what the hub tells of a payload
abbrev pub taken : List ℕ → Result (Arrival × ℕ) Fault
taken s = answer_of (take_payload hub s)

-- what it tells of an event with these messages, and the hub then
abbrev pub taken_with : List ℕ → Result (Arrival × ℕ) Fault
taken_with messages = taken (event_of 0x0201 messages)

abbrev pub hub_with : List ℕ → HubModel
hub_with messages = hub_after hub (take_payload hub (event_of 0x0201 messages))

-- Temperature messages

abbrev pub warm : List ℕ
warm = 0x08 ∷ 0x71 ∷ 0 ∷ 0 ∷ 0x01 ∷ 0x01 ∷ 1 ∷ 0 ∷ []

abbrev pub cold : List ℕ
cold = 0x08 ∷ 0x71 ∷ 0 ∷ 0 ∷ 0xFE ∷ 0xFF ∷ 1 ∷ 0 ∷ []

-- The crossing: a target changes while the packet that tells its old value is under way.

abbrev pub at220 : HubModel
at220 = hub_after hub (set_value hub 1 Target (pos 220))

abbrev pub room : List ℕ
room = replicate 48 0

-- package 1 for switch 7: both values of actors 1 and 2, and the control word; its answer repeats it
abbrev pub packet : List ℕ
packet =
    0x01 ∷ 0x86 ∷ 48 ∷ 0 ∷ 0x01 ∷ 0x02 ∷ 1 ∷ 0 ∷ 0x34 ∷ 0x12 ∷ 0 ∷ 0 ∷ 7 ∷ 0 ∷ 5 ∷ 0
    ∷ 0x06 ∷ 0x43 ∷ 1 ∷ 0 ∷ 0 ∷ 0
    ∷ 0x06 ∷ 0x42 ∷ 1 ∷ 0 ∷ 220 ∷ 0
    ∷ 0x06 ∷ 0x43 ∷ 2 ∷ 0 ∷ 0 ∷ 0
    ∷ 0x06 ∷ 0x42 ∷ 2 ∷ 0 ∷ 0 ∷ 0
    ∷ 0x08 ∷ 0x21 ∷ 0 ∷ 0 ∷ 0x30 ∷ 0x01 ∷ 0 ∷ 0
    ∷ []

abbrev pub written : HubModel
written = hub_after at220 (compose at220 7 room)

abbrev pub away : HubModel
away = hub_after written (sent written 7 1)

abbrev pub at230 : HubModel
at230 = hub_after away (set_value away 1 Target (pos 230))

abbrev pub answered : HubModel
answered = hub_after at230 (take_payload at230 packet)

-- package 2 for switch 7: both values of actor 1
abbrev pub next_packet : List ℕ
next_packet =
    0x01 ∷ 0x86 ∷ 28 ∷ 0 ∷ 0x01 ∷ 0x02 ∷ 2 ∷ 0 ∷ 0x34 ∷ 0x12 ∷ 0 ∷ 0 ∷ 7 ∷ 0 ∷ 5 ∷ 0
    ∷ 0x06 ∷ 0x43 ∷ 1 ∷ 0 ∷ 0 ∷ 0
    ∷ 0x06 ∷ 0x42 ∷ 1 ∷ 0 ∷ 230 ∷ 0
    ∷ []

-- the number of the answer that a switch awaits, if it awaits one
abbrev pub awaited_at : HubModel → ℕ → Result (Option ℕ) Fault
awaited_at h id = asked h id (λ m. Ok m.numbers.awaited)

-- "Event, n" is an event with n messages understood.
pub record WorkedExamples : Type 0 where
  -- the hub stands: it opens, and enrols both switches
  pub opens : opened site (zeros (1 ∷ 2 ∷ [])) ≡ Ok empty
  pub enrols_switch7 : answer_of (enrol empty 7 (1 ∷ 2 ∷ [])) ≡ Ok tt
  pub enrols_switch8 : answer_of (enrol with_seven 8 (2 ∷ [])) ≡ Ok tt
  -- payloads: their lengths and their version
  pub refuses15_bytes : taken (take 15 (event_of 0x0201 [])) ≡ Err (Frame frame.Length 0)
  pub refuses1473_bytes : taken (event_of 0x0201 (replicate 1457 0)) ≡ Err (Frame frame.Length 0)
  pub takes_bare_descriptor : taken (event_of 0x0201 []) ≡ Ok (Event, 0)
  pub takes_version_02ff : taken (event_of 0x02FF []) ≡ Ok (Event, 0)
  pub refuses_version_0300 : taken (event_of 0x0300 []) ≡ Err (Frame frame.MajorVersion 4)
  -- messages
  pub passes_unknown_kind : taken_with (0x04 ∷ 0xF0 ∷ 0 ∷ 0 ∷ []) ≡ Ok (Event, 0)
  pub refuses_broken_message : taken_with (0x03 ∷ 0xF0 ∷ 0 ∷ []) ≡ Err (Message message.Broken 16)
  pub refuses_length_of_kind : taken_with (0x08 ∷ 0x42 ∷ 1 ∷ 0 ∷ 0 ∷ 0 ∷ 0 ∷ 0 ∷ []) ≡ Err (Message message.KindLength 16)
  pub refuses_actor0 : taken_with (0x06 ∷ 0x42 ∷ 0 ∷ 0 ∷ 0 ∷ 0 ∷ []) ≡ Err (Message message.ActorRule 16)
  -- readings
  pub reads257 : message_of warm 16 ≡ Ok (Known (Temperature (Some (pos 257))))
  pub takes257 : taken_with warm ≡ Ok (Event, 1)
  pub keeps257 : reading_at (hub_with warm) 7 ≡ Ok (Some (pos 257))
  pub reads_minus2 : message_of cold 16 ≡ Ok (Known (Temperature (Some (negsuc 1))))
  pub takes_minus2 : taken_with cold ≡ Ok (Event, 1)
  pub keeps_minus2 : reading_at (hub_with cold) 7 ≡ Ok (Some (negsuc 1))
  -- control words
  pub grants_control130 : answer_of (set_control hub 7 0x130) ≡ Ok tt
  pub refuses_control30 : answer_of (set_control hub 7 0x30) ≡ Err (Call call.ControlWord 0)
  -- the image: four actors to a page
  pub actual_of_actor6 : image.place_of Actual 6 ≡ 164
  pub target_of_actor6 : image.place_of Target 6 ≡ 166
  -- the crossing, step by step: 220 is sent
  pub grants220 : answer_of (set_value hub 1 Target (pos 220)) ≡ Ok tt
  pub composes : answer_of (compose at220 7 room) ≡ Ok (record { size = 48; actors = 2; number = 1 })
  pub writes220 : composed_bytes at220 7 room ≡ packet
  pub closes_slip : answer_of (sent written 7 1) ≡ Ok tt
  pub awaits_answer1 : awaited_at away 7 ≡ Ok (Some 1)
  pub actor1_under_way : actor_mark away 7 1 ≡ Ok UnderWay
  pub actor2_under_way : actor_mark away 7 2 ≡ Ok UnderWay
  pub control_under_way : control_mark away 7 ≡ Ok UnderWay
  -- then the target becomes 230, and the answer comes, 220 in it
  pub grants230 : answer_of (set_value away 1 Target (pos 230)) ≡ Ok tt
  pub still_awaits_answer1 : awaited_at at230 7 ≡ Ok (Some 1)
  pub takes_answer1 : answer_of (take_payload at230 packet) ≡ Ok (Answer, 5)
  pub awaits_nothing : awaited_at answered 7 ≡ Ok None
  pub store_keeps230 : read_answer answered.store 1 ≡ Ok (pos 0, pos 230)
  pub actor1_due : actor_mark answered 7 1 ≡ Ok Due
  pub actor2_settled : actor_mark answered 7 2 ≡ Ok Settled
  pub control_settled : control_mark answered 7 ≡ Ok Settled
  -- the next packet tells actor 1 alone, in 28 bytes
  pub composes_again : answer_of (compose answered 7 room) ≡ Ok (record { size = 28; actors = 1; number = 2 })
  pub writes230 : composed_bytes answered 7 (replicate 28 0) ≡ next_packet
