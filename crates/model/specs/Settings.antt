-- Settings: an actual value, a target, a control word.
use Rattle.std.specs.Prelude.{ℕ, ◌/◌, ◌%◌, Bool, cond, not, ◌&&◌, map, ℤ, Some, None, Ok, Err, Option, Result, ◌==◌, bit_and}
use Rattle.fault.specs.declared.CallFault.TheVariants.{ControlWord}
use Rattle.fault.specs.declared.Fault.{Fault}
use Rattle.fault.specs.declared.Fault.TheVariants.{Call, Frame}
use Rattle.fault.specs.declared.FrameFault.TheVariants.{Switch}
use Rattle.store.specs.declared.actor_store.Half.{Half}
use Rattle.store.specs.Meaning.{after_put, put_answer}
use Rattle.model.specs.Models.{HubModel, Step, SwitchModel, change_switch, find_switch, touched, with_control}

-- the value is in the store, and its actor is due at every switch that lists it
abbrev pub with_value : ℕ → Half → ℤ → HubModel → HubModel
with_value a half v h = record { site = h.site; switches = map (touched a) h.switches; store = after_put h.store a half v }

abbrev pub granted : Result Unit Fault → HubModel → Step Unit
granted (Ok _) g = Ok (tt, g)
granted (Err e) g = Err e

-- Setting an actual value or a target: the store's own refusals, unknown actor and then forbidden value.
abbrev pub set_value : HubModel → ℕ → Half → ℤ → Step Unit
set_value h a half v = granted (put_answer h.store a v) (with_value a half v h)

-- a control word has no bit outside its mask, and bit 8 set
abbrev pub lawful_control : ℕ → Bool
lawful_control word = bit_and word 0x1F00FFBF == word && word / 256 % 2 == 1

-- what is asked of an enrolled switch; one that is not enrolled is refused at 0
abbrev pub at_enrolled : {A : Type 0} → Option SwitchModel → (SwitchModel → Result A Fault) → Result A Fault
at_enrolled None f = Err (Frame Switch 0)
at_enrolled (Some m) f = f m

-- Setting a control word makes it due at its switch.
abbrev pub set_control : HubModel → ℕ → ℕ → Step Unit
set_control h id word =
    at_enrolled (find_switch id h.switches) (λ _.
    cond (not (lawful_control word)) (Err (Call ControlWord 0))
    (Ok (tt, change_switch id (with_control word) h)))
