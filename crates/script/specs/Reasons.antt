-- Why a line is no call, and how it is told.
use Rattle.std.specs.Prelude.{ℕ, List, ◌++◌, Ok, Err, codes, Result}
use Rattle.script.specs.Places.{place_text}
use Rattle.script.specs.Texts.{shown}
use Rattle.script.specs.Verbs.{form_of}
use Rattle.script.specs.declared.place.Place.{Place}
use Rattle.script.specs.declared.reason.Reason.{Reason}
use Rattle.script.specs.declared.reason.Reason.TheVariants as reason
use Rattle.script.specs.declared.verb.Verb.{Verb}

-- A reason, with the words that it speaks of.
pub data Why : Type 0 where
  line_end : Why
  no_name : List ℕ → Why
  other_form : Verb → Why
  no_store : List ℕ → Why
  no_number : List ℕ → Place → Why

-- a reason in memory, with its texts as they are
abbrev pub why : Reason → Why
why reason.LineEnd = line_end
why (reason.Name name) = no_name name.now
why (reason.Form verb) = other_form verb
why (reason.Store name) = no_store name.now
why (reason.Number word place) = no_number word.now place

-- what was read, or why it was not
abbrev pub read_as : {A : Type 0} → Result A Reason → Result A Why
read_as (Ok x) = Ok x
read_as (Err e) = Err (why e)

abbrev pub made : {A B : Type 0} → (A → B) → Result A Why → Result B Why
made f (Ok x) = Ok (f x)
made f (Err e) = Err e

abbrev pub why_text : Why → List ℕ
why_text line_end = codes "a line ends with LF alone"
why_text (no_name name) = codes "no call " ++ shown name
why_text (other_form verb) = codes "write " ++ form_of verb
why_text (no_store name) = shown name ++ codes " is no store, table or image"
why_text (no_number word place) = shown word ++ (codes " is no " ++ place_text place)
