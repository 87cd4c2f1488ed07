-- Opening a hub, and enrolling a switch.
use Rattle.std.specs.Prelude.{ℕ, ◌+◌, cond, not, ◌||◌, List, [], ◌∷◌, ◌++◌, map, length, is_some, Some, None, Ok, Err, Option, Result, ◌==◌, nat_le, nat_lt}
use Rattle.fault.specs.declared.CallFault.TheVariants.{HubFull, SwitchTaken}
use Rattle.fault.specs.declared.Fault.{Fault}
use Rattle.fault.specs.declared.Fault.TheVariants.{Call, Frame, Store}
use Rattle.fault.specs.declared.FrameFault.TheVariants.{MajorVersion}
use Rattle.fault.specs.declared.StoreFault.TheVariants.{ListEntry, ListLength, UnknownActor}
use Rattle.packet.specs.Words.{major}
pub use Rattle.store.specs.Lists.{unless}
use Rattle.store.specs.Lists.{lists}
use Rattle.store.specs.Meaning.{Known}
use Rattle.model.specs.declared.item.Item.{Item}
use Rattle.model.specs.declared.mark.Mark.TheVariants.{Due}
use Rattle.model.specs.declared.told.Site.{Site}
use Rattle.model.specs.Models.{HubModel, Step, SwitchModel, find_switch, with_switches}

-- a hub with no switch
abbrev pub new_hub : Site → Known → HubModel
new_hub site store = record { site = site; switches = []; store = store }

-- Opening: the major version must be 2.
abbrev pub opened : Site → Known → Result HubModel Fault
opened site store = cond (not (major site.version == 2)) (Err (Frame MajorVersion 0)) (Ok (new_hub site store))

-- From index i on, with `before` in front: the first entry that is zero or repeats one before it, or that the store does not know.
abbrev pub entry_fault : Known → List ℕ → ℕ → List ℕ → Option Fault
entry_fault store before i [] = None
entry_fault store before i (a ∷ rest) =
    cond (a == 0 || lists before a) (Some (Store ListEntry i))
    (cond (is_some (store a)) (entry_fault store (before ++ a ∷ []) (i + 1) rest) (Some (Store UnknownActor i)))

-- What is wrong with an enrolment, first failing check first.
abbrev pub enrol_fault : HubModel → ℕ → List ℕ → Option Fault
enrol_fault h id list =
    cond (id == 0 || is_some (find_switch id h.switches)) (Some (Call SwitchTaken 0))
    (cond (nat_le 32 (length h.switches)) (Some (Call HubFull 0))
    (cond (length list == 0 || nat_lt 64 (length list)) (Some (Store ListLength 0))
    (entry_fault h.store [] 0 list)))

abbrev pub due_item : ℕ → Item
due_item a = record { actor = a; mark = Due }

-- A switch as it is enrolled: every item due, control word 0x130, next number 1, nothing awaited, nothing reported, no open slip.
abbrev pub new_switch : ℕ → List ℕ → SwitchModel
new_switch id list = record {
  id = id;
  items = map due_item list;
  control = 0x00000130;
  mark = Due;
  numbers = record { next = 1; awaited = None; slip = None };
  report = record { flags = 0; key = None; reading = None };
}

-- Enrolment adds a switch behind the others.
abbrev pub enrol : HubModel → ℕ → List ℕ → Step Unit
enrol h id list = unless (enrol_fault h id list) (tt, with_switches (h.switches ++ new_switch id list ∷ []) h)
