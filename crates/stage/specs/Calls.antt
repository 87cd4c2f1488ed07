-- What a call of a script tells and leaves of the hub.
use Rattle.std.specs.Prelude.{◌≡◌, ℕ, Bool, true, false, ◌⊎◌, List, [], ◌∷◌, length, min, IfSome, is_some, Some, Err, Option}
use Rattle.fault.specs.declared.Fault.{Fault}
use Rattle.hexadecimal.specs.Decoding.{Spells, decode_tells}
use Rattle.hexadecimal.specs.Lines.{lines_of}
use Rattle.store.specs.declared.actor_store.Half.TheVariants.{Actual, Target}
use Rattle.model.specs.Composing.{compose, withheld}
use Rattle.model.specs.Models.{HubModel, hub_after}
use Rattle.model.specs.Opening.{enrol}
use Rattle.model.specs.Settings.{set_control, set_value}
use Rattle.model.specs.Taking.{take_payload}
use Rattle.hub.specs.Slips.{SlipModel}
use Rattle.script.specs.Calls as call
use Rattle.script.specs.Calls.{Said}
use Rattle.script.specs.Line as line
use Rattle.script.specs.Line.{Says, line_in}
use Rattle.script.specs.Reasons.{why}
use Rattle.script.specs.declared.reason.Reason.{Reason}
use Rattle.stage.specs.Outcomes.{asks, composed, done, taken}
use Rattle.stage.specs.Reviews.{Reviewed, told_now, wanted_now}
use Rattle.stage.specs.Slips.{HoldsAll, handed_for, handed_told, place_for}
use Rattle.stage.specs.declared.outcome.Answer.{Answer}
use Rattle.stage.specs.declared.outcome.Answer.TheVariants as answer
use Rattle.stage.specs.declared.outcome.Outcome.TheVariants as outcome
use Rattle.hub.specs.declared.slip.Fate.TheVariants.{Sent, Withheld}

-- the hub takes the bytes that a line of digits spells; where it is no such line, it tells so, and nothing changes
abbrev pub Takes : List ℕ → Option Answer → HubModel → HubModel → Type 0
Takes digits o h g =
    ((bytes : List ℕ) × Spells digits bytes × (o ≡ Some (taken h bytes)) × (g ≡ hub_after h (take_payload h bytes)))
    ⊎ ((f : Fault) × (decode_tells digits 1472 ≡ Err f) × (o ≡ Some (answer.Refused f)) × (g ≡ h))

-- a slip is out still; only where the program ends with an error, for want of memory, may its packet have been withheld
abbrev pub Keeps : Bool → ℕ → ℕ → HubModel → HubModel → Type 0
Keeps true s number h g = g ≡ h
Keeps false s number h g = (g ≡ h) ⊎ (g ≡ hub_after h (withheld h s number))

-- the hub composes into a buffer, and its slip, if it issues one, is kept
abbrev pub Composes : Option Answer → ℕ → List ℕ → HubModel → HubModel → Type 0
Composes o s buf h g = IfSome o (λ a. a ≡ composed h s buf (compose h s buf)) × ((number : ℕ) × Keeps (is_some o) s number (hub_after h (compose h s buf)) g)

-- A call tells this and leaves the hub so, with these slips at hand before it: as the step of its name does, and a question as it was.
-- Nothing is told where the program ends for want of memory.
abbrev pub Leaves : Said → Option Answer → List SlipModel → HubModel → HubModel → Type 0
Leaves (call.enrol s list) o slips h g = (o ≡ Some (done (enrol h s list))) × (g ≡ hub_after h (enrol h s list))
Leaves (call.actual a v) o slips h g = (o ≡ Some (done (set_value h a Actual v))) × (g ≡ hub_after h (set_value h a Actual v))
Leaves (call.target a v) o slips h g = (o ≡ Some (done (set_value h a Target v))) × (g ≡ hub_after h (set_value h a Target v))
Leaves (call.control s word) o slips h g = (o ≡ Some (done (set_control h s word))) × (g ≡ hub_after h (set_control h s word))
Leaves (call.take digits) o slips h g = Takes digits o h g
Leaves (call.compose s room) o slips h g = (buf : List ℕ) × (length buf ≡ min room 1472) × Composes o s buf h g
Leaves (call.sent s n) o slips h g = (o ≡ Some (handed_told (place_for s n slips))) × (g ≡ handed_for Sent h s n (place_for s n slips))
Leaves (call.withheld s n) o slips h g = (o ≡ Some (handed_told (place_for s n slips))) × (g ≡ handed_for Withheld h s n (place_for s n slips))
Leaves (call.open_hub site store) o slips h g = (o ≡ Some answer.OpenAlready) × (g ≡ h)
Leaves (call.marks s a) o slips h g = (o ≡ asks (call.marks s a) h) × (g ≡ h)
Leaves (call.word s) o slips h g = (o ≡ asks (call.word s) h) × (g ≡ h)
Leaves (call.flags s) o slips h g = (o ≡ asks (call.flags s) h) × (g ≡ h)
Leaves (call.key s) o slips h g = (o ≡ asks (call.key s) h) × (g ≡ h)
Leaves (call.reading s) o slips h g = (o ≡ asks (call.reading s) h) × (g ≡ h)

-- What a line makes of the hub and of the review of its outcomes. One that is passed over or is no call leaves the hub as it was.
abbrev pub MakesSaid : Says → HubModel → Reviewed → HubModel → Reviewed → Type 0
MakesSaid line.passed h r g q = (g ≡ h) × (q ≡ r)
MakesSaid (line.wanted outcome) h r g q = (g ≡ h) × (q ≡ wanted_now outcome r)
MakesSaid (line.call c) h r g q = (a : Answer) × ((slips : List SlipModel) × HoldsAll h slips × Leaves c (Some a) slips h g) × (q ≡ told_now (outcome.Made a) r)
MakesSaid (line.unknown w) h r g q = (g ≡ h) × ((reason : Reason) × (why reason ≡ w) × (q ≡ told_now (outcome.Unknown reason) r))

abbrev pub Makes : List ℕ → HubModel → Reviewed → HubModel → Reviewed → Type 0
Makes text h r g q = MakesSaid (line_in text) h r g q

-- line by line, in order
abbrev pub MakesAll : List (List ℕ) → HubModel → Reviewed → HubModel → Reviewed → Type 0
MakesAll [] h r g q = (g ≡ h) × (q ≡ r)
MakesAll (text ∷ lines) h r g q = (k : HubModel) × (m : Reviewed) × Makes text h r k m × MakesAll lines k m g q

-- Lines were made, in order; where it is known what there was to read, they are all the lines of that.
abbrev pub MakesScript : Option (List ℕ) → HubModel → Reviewed → HubModel → Reviewed → Type 0
MakesScript known h r g q = (lines : List (List ℕ)) × IfSome known (λ text. lines ≡ lines_of text) × MakesAll lines h r g q

-- a call that opens and closes no slip
abbrev pub Plain : Said → Type 0
Plain (call.enrol s list) = Unit {0}
Plain (call.actual a v) = Unit {0}
Plain (call.target a v) = Unit {0}
Plain (call.control s word) = Unit {0}
Plain (call.take digits) = Unit {0}
Plain (call.compose s room) = ⊥
Plain (call.sent s n) = ⊥
Plain (call.withheld s n) = ⊥
Plain (call.open_hub site store) = Unit {0}
Plain (call.marks s a) = Unit {0}
Plain (call.word s) = Unit {0}
Plain (call.flags s) = Unit {0}
Plain (call.key s) = Unit {0}
Plain (call.reading s) = Unit {0}
