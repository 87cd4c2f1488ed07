-- What a line of a script says as a call.
use Rattle.std.specs.Prelude.{ℕ, cond, List, ℤ, Some, None, Ok, Err, codes, Option, Result}
use Rattle.std.specs.Str.{bytes_eq}
use Rattle.model.specs.declared.told.Site.{Site}
use Rattle.script.specs.Actors.{actors_in}
use Rattle.script.specs.Lists.{list_in, list_read}
use Rattle.script.specs.Parts.{both, long_read, one, one_word, short_read, space, two, two_words, value_read}
use Rattle.script.specs.Reasons.{Why, made, no_name, no_store, other_form}
use Rattle.script.specs.Rooms.{room_read}
use Rattle.script.specs.Verbs.{verb_of}
use Rattle.script.specs.Words.{cut_at}
use Rattle.script.specs.declared.call.Call.{Call}
use Rattle.script.specs.declared.call.Call.TheVariants as call
use Rattle.script.specs.declared.call.Store.{Store}
use Rattle.script.specs.declared.call.Store.TheVariants as store
use Rattle.script.specs.declared.place.Place.{Place}
use Rattle.script.specs.declared.place.Place.TheVariants.{Version, Project, Firmware, Design, Switch, Actor, Value, ControlWord, Room, PackageNumber}
use Rattle.script.specs.declared.verb.Verb.{Verb}
use Rattle.script.specs.declared.verb.Verb.TheVariants.{Open, Enrol, Actual, Target, Control, Take, Compose, Sent, Withheld, Marks, Word, Flags, Key, Reading}

-- a store to be opened: over a list of actors, or over the bytes that digits spell
pub data Kept : Type 0 where
  table : List ℕ → Kept
  image : List ℕ → Kept

-- A call by what a line says of it: its numbers and values, its list, or its digits.
pub data Said : Type 0 where
  open_hub : Site → Kept → Said
  enrol : ℕ → List ℕ → Said
  actual : ℕ → ℤ → Said
  target : ℕ → ℤ → Said
  control : ℕ → ℕ → Said
  take : List ℕ → Said
  compose : ℕ → ℕ → Said
  sent : ℕ → ℕ → Said
  withheld : ℕ → ℕ → Said
  marks : ℕ → ℕ → Said
  word : ℕ → Said
  flags : ℕ → Said
  key : ℕ → Said
  reading : ℕ → Said

-- a call in memory, with its texts and lists as they are
abbrev pub kept : Store → Kept
kept (store.Table list) = table (actors_in list)
kept (store.Image text) = image text.now

abbrev pub said : Call → Said
said (call.Open site s) = open_hub site (kept s)
said (call.Enrol s list) = enrol s (actors_in list)
said (call.Actual a v) = actual a v
said (call.Target a v) = target a v
said (call.Control s w) = control s w
said (call.Take text) = take text.now
said (call.Compose s room) = compose s room
said (call.Sent s n) = sent s n
said (call.Withheld s n) = withheld s n
said (call.Marks s a) = marks s a
said (call.Word s) = word s
said (call.Flags s) = flags s
said (call.Key s) = key s
said (call.Reading s) = reading s

abbrev pub store_named : List ℕ × List ℕ → Result Kept Why
store_named p =
    cond (bytes_eq p.0 (codes "table")) (made table (list_in Actor p.1))
    (cond (bytes_eq p.0 (codes "image")) (Ok (image p.1)) (Err (no_store p.0)))

abbrev pub store_of : Result (List ℕ × List ℕ) Why → Result Kept Why
store_of (Err e) = Err e
store_of (Ok p) = store_named p

-- `table` and a list, or `image` and the bytes of a block
abbrev pub store_in : List ℕ → Result Kept Why
store_in text = store_of (two_words Open text)

abbrev pub numbers_and : Place → Place → List ℕ → Option (List ℕ × List ℕ) → Result (ℕ × (ℕ × List ℕ)) Why
numbers_and a b first None = Err (other_form Open)
numbers_and a b first (Some p) = made (λ q. (q.0, (q.1, p.1))) (both (short_read a first) (short_read b p.0))

abbrev pub numbers_before : Place → Place → Option (List ℕ × List ℕ) → Result (ℕ × (ℕ × List ℕ)) Why
numbers_before a b None = Err (other_form Open)
numbers_before a b (Some p) = numbers_and a b p.0 (cut_at space p.1)

-- two numbers in their places, and what stands behind the space after them
abbrev pub two_before : Place → Place → List ℕ → Result (ℕ × (ℕ × List ℕ)) Why
two_before a b text = numbers_before a b (cut_at space text)

abbrev pub open_over : ℕ × (ℕ × List ℕ) → Result (ℕ × (ℕ × List ℕ)) Why → Result Said Why
open_over p (Err e) = Err e
open_over p (Ok q) = made (open_hub (record { version = p.0; project = p.1.0; firmware = q.0; design = q.1.0 })) (store_in q.1.1)

abbrev pub open_with : Result (ℕ × (ℕ × List ℕ)) Why → Result Said Why
open_with (Err e) = Err e
open_with (Ok p) = open_over p (two_before Firmware Design p.1.1)

-- version and project, firmware and design, then the store
abbrev pub open_in : List ℕ → Result Said Why
open_in text = open_with (two_before Version Project text)

-- what stands behind the name of each call
abbrev pub call_for : Verb → List ℕ → Result Said Why
call_for Open rest = open_in rest
call_for Enrol rest = made (λ p. enrol p.0 (actors_in p.1)) (two (short_read Switch) (list_read Actor) Enrol rest)
call_for Actual rest = made (λ p. actual p.0 p.1) (two (short_read Actor) (value_read Value) Actual rest)
call_for Target rest = made (λ p. target p.0 p.1) (two (short_read Actor) (value_read Value) Target rest)
call_for Control rest = made (λ p. control p.0 p.1) (two (short_read Switch) (long_read ControlWord) Control rest)
call_for Take rest = made take (one_word Take rest)
call_for Compose rest = made (λ p. compose p.0 p.1.bytes) (two (short_read Switch) (room_read Room) Compose rest)
call_for Sent rest = made (λ p. sent p.0 p.1) (two (short_read Switch) (short_read PackageNumber) Sent rest)
call_for Withheld rest = made (λ p. withheld p.0 p.1) (two (short_read Switch) (short_read PackageNumber) Withheld rest)
call_for Marks rest = made (λ p. marks p.0 p.1) (two (short_read Switch) (short_read Actor) Marks rest)
call_for Word rest = made word (one (short_read Switch) Word rest)
call_for Flags rest = made flags (one (short_read Switch) Flags rest)
call_for Key rest = made key (one (short_read Switch) Key rest)
call_for Reading rest = made reading (one (short_read Switch) Reading rest)

abbrev pub call_behind : List ℕ → List ℕ → Option Verb → Result Said Why
call_behind name rest None = Err (no_name name)
call_behind name rest (Some verb) = call_for verb rest

-- a name that nothing stands behind
abbrev pub call_alone : List ℕ → Option Verb → Result Said Why
call_alone name None = Err (no_name name)
call_alone name (Some verb) = Err (other_form verb)

abbrev pub call_of : List ℕ → Option (List ℕ × List ℕ) → Result Said Why
call_of line None = call_alone line (verb_of line)
call_of line (Some p) = call_behind p.0 p.1 (verb_of p.0)

-- A line that is a call: its name, a space, and what stands behind it. Of any other line, why it is none.
unfoldable pub call_in : List ℕ → Result Said Why
call_in line = call_of line (cut_at space line)
