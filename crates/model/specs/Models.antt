-- What a hub keeps: its opening words, its switches in order of enrolment, and what its store means.
use Rattle.std.specs.Prelude.{ℕ, Bool, false, cond, ◌||◌, List, [], ◌∷◌, map, Some, None, Ok, Err, Option, Result, ◌==◌, nat_eq}
use Rattle.std.specs.Option.{option_eq}
use Rattle.fault.specs.declared.Fault.{Fault}
use Rattle.store.specs.Meaning.{Known}
use Rattle.model.specs.declared.item.Item.{Item}
use Rattle.model.specs.declared.mark.Change.{Change}
use Rattle.model.specs.declared.mark.Change.TheVariants.{Changed}
use Rattle.model.specs.declared.mark.Mark.{Mark}
use Rattle.model.specs.declared.told.Numbers.{Numbers}
use Rattle.model.specs.declared.told.Report.{Report}
use Rattle.model.specs.declared.told.Site.{Site}
use Rattle.model.specs.Marks.{is_outstanding, moved}

-- An enrolled switch: its items are its listed actors, each with its mark, and its control word with its mark.
pub record SwitchModel : Type 0 where
  pub id : ℕ
  pub items : List Item
  pub control : ℕ
  pub mark : Mark
  pub numbers : Numbers
  pub report : Report

pub record HubModel : Type 0 where
  pub site : Site
  pub switches : List SwitchModel
  pub store : Known

abbrev pub switches_of : HubModel → List SwitchModel
switches_of h = h.switches

-- A step answers and leaves a hub, or refuses and leaves it as it was.
abbrev pub Step : Type 0 → Type 0
Step A = Result (A × HubModel) Fault

abbrev pub answer_of : {A : Type 0} → Step A → Result A Fault
answer_of (Ok p) = Ok p.0
answer_of (Err e) = Err e

abbrev pub hub_after : {A : Type 0} → HubModel → Step A → HubModel
hub_after h (Ok p) = p.1
hub_after h (Err e) = h

-- Looking up and changing one switch.

abbrev pub find_switch : ℕ → List SwitchModel → Option SwitchModel
find_switch id [] = None
find_switch id (m ∷ ms) = cond (m.id == id) (Some m) (find_switch id ms)

abbrev pub at_switch : ℕ → (SwitchModel → SwitchModel) → List SwitchModel → List SwitchModel
at_switch id f [] = []
at_switch id f (m ∷ ms) = cond (m.id == id) (f m ∷ ms) (m ∷ at_switch id f ms)

abbrev pub with_switches : List SwitchModel → HubModel → HubModel
with_switches ms h = record { site = h.site; switches = ms; store = h.store }

abbrev pub change_switch : ℕ → (SwitchModel → SwitchModel) → HubModel → HubModel
change_switch id f h = with_switches (at_switch id f h.switches) h

-- Whether a switch lists an actor, and the mark that it has there.

abbrev pub is_actor : ℕ → Item → Bool
is_actor a x = x.actor == a

abbrev pub lists_actor : ℕ → List Item → Bool
lists_actor a [] = false
lists_actor a (x ∷ xs) = is_actor a x || lists_actor a xs

abbrev pub mark_of_actor : ℕ → List Item → Option Mark
mark_of_actor a [] = None
mark_of_actor a (x ∷ xs) = cond (is_actor a x) (Some x.mark) (mark_of_actor a xs)

abbrev pub any_outstanding : List Item → Bool
any_outstanding [] = false
any_outstanding (x ∷ xs) = is_outstanding x.mark || any_outstanding xs

-- whether a number that may be absent, as that of the awaited answer or of the open slip, is this one
abbrev pub is_number : Option ℕ → ℕ → Bool
is_number o number = option_eq nat_eq o (Some number)

-- Moving items: one actor's, all of them, or the control word.

abbrev pub with_marks : List Item → Mark → SwitchModel → SwitchModel
with_marks items mark m = record { id = m.id; items = items; control = m.control; mark = mark; numbers = m.numbers; report = m.report }

abbrev pub moved_item : Change → Item → Item
moved_item c x = record { actor = x.actor; mark = moved x.mark c }

abbrev pub touched_item : ℕ → Item → Item
touched_item a x = cond (is_actor a x) (moved_item Changed x) x

-- an actor becomes due, where the switch lists it
abbrev pub touched : ℕ → SwitchModel → SwitchModel
touched a m = with_marks (map (touched_item a) m.items) m.mark m

-- every item moves
abbrev pub all_moved : Change → SwitchModel → SwitchModel
all_moved c m = with_marks (map (moved_item c) m.items) (moved m.mark c) m

abbrev pub with_report : Report → SwitchModel → SwitchModel
with_report r m = record { id = m.id; items = m.items; control = m.control; mark = m.mark; numbers = m.numbers; report = r }

abbrev pub with_numbers : Numbers → SwitchModel → SwitchModel
with_numbers n m = record { id = m.id; items = m.items; control = m.control; mark = m.mark; numbers = n; report = m.report }

-- the control word becomes this one, and due
abbrev pub with_control : ℕ → SwitchModel → SwitchModel
with_control word m = record { id = m.id; items = m.items; control = word; mark = moved m.mark Changed; numbers = m.numbers; report = m.report }
