-- Playing a script: what each call makes of the hub and of the kept slip, and what it tells.
use Rattle.std.specs.Prelude.{ℕ, ◌%◌, List, take, Some, None, Ok, Err, Option, Result}
use Rattle.fault.specs.declared.CallFault.TheVariants.{NoSlip}
use Rattle.fault.specs.declared.Fault.{Fault}
use Rattle.fault.specs.declared.Fault.TheVariants as fault
use Rattle.store.specs.declared.actor_store.Half.TheVariants as half
use Rattle.model.specs.Composing.{compose, composed_bytes}
use Rattle.model.specs.Models.{HubModel, Step, answer_of, hub_after}
use Rattle.model.specs.Opening.{enrol}
use Rattle.model.specs.Questions.{actor_mark, control_mark, flags_of, key_of, outstanding_at, reading_at}
use Rattle.model.specs.Settings.{set_control, set_value}
use Rattle.model.specs.Taking.{take_payload}
use Rattle.hub.specs.declared.composition.Composed.{Composed}
use Rattle.hub.specs.declared.slip.Fate as slip
use Rattle.hub.specs.declared.slip.Fate.TheVariants as fate
use Rattle.hub.specs.Slips as hub
use Rattle.hub.specs.Slips.{SlipModel}
use Rattle.hub.specs.Compositions.{composition}
use Rattle.bench_hub.specs.declared.call.Call.{Call}
use Rattle.bench_hub.specs.declared.call.Call.TheVariants.{Plain, Compose, HandIn, HandToStranger}
use Rattle.bench_hub.specs.declared.call.Fate.{Fate}
use Rattle.bench_hub.specs.declared.call.Fate.TheVariants.{Kept, Sent, Withheld}
use Rattle.bench_hub.specs.declared.call.Plain as call
use Rattle.bench_hub.specs.declared.call.Plain.TheVariants as plain
use Rattle.bench_hub.specs.declared.outcome.Outcome.{Outcome}
use Rattle.bench_hub.specs.declared.outcome.Outcome.TheVariants.{Done, Refused, Idle}
use Rattle.bench_hub.specs.declared.outcome.Told.{Told}
use Rattle.bench_hub.specs.Calls.{words_in}
use Rattle.bench_hub.specs.Telling.{flags_told, key_told, mark_told, outcome_of, outstanding_told, reading_told, taken_told, told_in, unit_told}

-- what a step tells, and the hub that it leaves
abbrev pub by_step : {A : Type 0} → (A → Told) → HubModel → Step A → Outcome × HubModel
by_step told h r = (outcome_of told (answer_of r), hub_after h r)

-- A call that opens and closes no slip, with its data.
abbrev pub applied : HubModel → call.Plain → List ℕ → Outcome × HubModel
applied h plain.Nothing body = (Idle, h)
applied h (plain.Enrol switch) body = by_step unit_told h (enrol h switch (take 65 (words_in body)))
applied h (plain.Actual actor value) body = by_step unit_told h (set_value h actor half.Actual value)
applied h (plain.Target actor value) body = by_step unit_told h (set_value h actor half.Target value)
applied h (plain.Control switch word) body = by_step unit_told h (set_control h switch word)
applied h plain.Take body = by_step taken_told h (take_payload h body)
applied h (plain.ActorMark switch actor) body = (outcome_of mark_told (actor_mark h switch actor), h)
applied h (plain.ControlMark switch) body = (outcome_of mark_told (control_mark h switch), h)
applied h (plain.Flags switch) body = (outcome_of flags_told (flags_of h switch), h)
applied h (plain.LatestKey switch) body = (outcome_of key_told (key_of h switch), h)
applied h (plain.Reading switch) body = (outcome_of reading_told (reading_at h switch), h)
applied h (plain.Outstanding switch) body = (outcome_of outstanding_told (outstanding_at h switch), h)

-- handing a slip in: as sent, or else as withheld
abbrev pub handing : Fate → slip.Fate
handing Sent = fate.Sent
handing Kept = fate.Withheld
handing Withheld = fate.Withheld

abbrev pub handed_in : Fate → HubModel → SlipModel → Step Unit
handed_in fate h x = hub.handed_in (handing fate) h x

-- How things stand: the hub, and the slip that is kept.
pub record Scene : Type 0 where
  pub hub : HubModel
  pub kept : Option SlipModel

abbrev pub scene : HubModel → Option SlipModel → Scene
scene h kept = record { hub = h; kept = kept }

-- A slip that was just composed: one that is to be kept is, where no other is, and else it is handed in.
abbrev pub placed : Fate → SlipModel → HubModel → Option SlipModel → Scene
placed Kept x h None = scene h (Some x)
placed Kept x h (Some y) = scene (hub_after h (handed_in Withheld h x)) (Some y)
placed Sent x h kept = scene (hub_after h (handed_in Sent h x)) kept
placed Withheld x h kept = scene (hub_after h (handed_in Withheld h x)) kept

-- what a compose tells, and what becomes of its slip
abbrev pub told_composed : Result Composed Fault → Outcome
told_composed (Ok c) = Done (told_in (c.length % 65536) (c.actors % 65536) c.slip.number)
told_composed (Err e) = Refused e

abbrev pub after_composed : Fate → HubModel → Option SlipModel → Result Composed Fault → Scene
after_composed fate h kept (Ok c) = placed fate c.slip h kept
after_composed fate h kept (Err e) = scene h kept

-- Handing in the kept slip. It is one that the hub has open, so that the hub takes it, and none is kept then.
abbrev pub told_handed : Fate → HubModel → Option SlipModel → Outcome
told_handed fate h None = Idle
told_handed fate h (Some x) = outcome_of unit_told (answer_of (handed_in fate h x))

abbrev pub after_handed : Fate → HubModel → Option SlipModel → HubModel
after_handed fate h None = h
after_handed fate h (Some x) = hub_after h (handed_in fate h x)

-- another hub, which has enrolled no switch, refuses it, and it stays kept
abbrev pub told_stranger : Option SlipModel → Outcome
told_stranger None = Idle
told_stranger (Some x) = Refused (fault.Call NoSlip 0)

-- Any call, with its data and its buffer: what it tells, how things stand then, and what the buffer holds.

abbrev pub told : Scene → Call → List ℕ → List ℕ → Outcome
told s (Plain call) body buf = (applied s.hub call body).0
told s (Compose switch room fate) body buf = told_composed (composition switch (compose s.hub switch buf))
told s (HandIn fate) body buf = told_handed fate s.hub s.kept
told s (HandToStranger fate) body buf = told_stranger s.kept

abbrev pub after : Scene → Call → List ℕ → List ℕ → Scene
after s (Plain call) body buf = scene (applied s.hub call body).1 s.kept
after s (Compose switch room fate) body buf =
    after_composed fate (hub_after s.hub (compose s.hub switch buf)) s.kept (composition switch (compose s.hub switch buf))
after s (HandIn fate) body buf = scene (after_handed fate s.hub s.kept) None
after s (HandToStranger fate) body buf = s

abbrev pub buffer_after : Scene → Call → List ℕ → List ℕ
buffer_after s (Plain call) buf = buf
buffer_after s (Compose switch room fate) buf = composed_bytes s.hub switch buf
buffer_after s (HandIn fate) buf = buf
buffer_after s (HandToStranger fate) buf = buf
