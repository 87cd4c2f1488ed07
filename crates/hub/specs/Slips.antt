-- Slips: which are open, and how one is handed in: refused, it comes back and is still owed.
use Rattle.std.specs.Prelude.{◌≡◌, ℕ, Bool, false, Some, None, Ok, Err, Option, Result, ◌==◌}
use Rattle.fault.specs.declared.Fault.{Fault}
use Rattle.hub.specs.declared.slip.Fate.{Fate}
use Rattle.hub.specs.declared.slip.Fate.TheVariants.{Sent, Withheld}
use Rattle.model.specs.Composing.{sent, withheld}
use Rattle.model.specs.Models.{HubModel, Step, SwitchModel, find_switch, is_number}

-- A slip: the SwitchID and the number of the packet that it is for.
pub record SlipModel : Type 0 where
  pub switch : ℕ
  pub number : ℕ

-- a slip that may not be let go, since its destructor wants number 0
abbrev pub Unspent : SlipModel → Type 0
Unspent slip = (slip.number == 0) ≡ false

-- what handing a slip in is to the hub, by what became of its packet
abbrev pub handed_in : Fate → HubModel → SlipModel → Step Unit
handed_in Sent h x = sent h x.switch x.number
handed_in Withheld h x = withheld h x.switch x.number

abbrev pub slip_answer : SlipModel → Step Unit → Result Unit (Fault × SlipModel)
slip_answer slip (Ok p) = Ok tt
slip_answer slip (Err e) = Err (e, slip)

abbrev pub owed_by : SlipModel → Option SwitchModel → Bool
owed_by slip None = false
owed_by slip (Some m) = is_number m.numbers.slip slip.number

-- whether the hub has this slip open
abbrev pub owed : HubModel → SlipModel → Bool
owed h slip = owed_by slip (find_switch slip.switch h.switches)

-- the number of the slip that a switch has open, if it has one
abbrev pub slip_in : Option SwitchModel → Option ℕ
slip_in None = None
slip_in (Some m) = m.numbers.slip

abbrev pub slip_out : HubModel → ℕ → Option ℕ
slip_out h s = slip_in (find_switch s h.switches)
