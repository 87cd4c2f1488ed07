-- The names of the calls.
use Rattle.std.specs.Prelude.{ℕ, List, [], ◌∷◌, codes, Option}
use Rattle.std.specs.Map.{lookup}
use Rattle.std.specs.Option.{option_or}
use Rattle.std.specs.Str.{bytes_eq}
use Rattle.script.specs.declared.verb.Verb.{Verb}
use Rattle.script.specs.declared.verb.Verb.TheVariants.{Open, Enrol, Actual, Target, Control, Take, Compose, Sent, Withheld, Marks, Word, Flags, Key, Reading}

abbrev pub setting_verb : List ℕ → Option Verb
setting_verb name =
    lookup (bytes_eq name)
    ((codes "open", Open)
    ∷ (codes "enrol", Enrol)
    ∷ (codes "actual", Actual)
    ∷ (codes "target", Target)
    ∷ (codes "control", Control)
    ∷ [])

abbrev pub packet_verb : List ℕ → Option Verb
packet_verb name =
    lookup (bytes_eq name)
    ((codes "take", Take)
    ∷ (codes "compose", Compose)
    ∷ (codes "sent", Sent)
    ∷ (codes "withheld", Withheld)
    ∷ [])

abbrev pub question_verb : List ℕ → Option Verb
question_verb name =
    lookup (bytes_eq name)
    ((codes "marks", Marks)
    ∷ (codes "word", Word)
    ∷ (codes "flags", Flags)
    ∷ (codes "key", Key)
    ∷ (codes "reading", Reading)
    ∷ [])

-- Settings, packets, questions.
abbrev pub verb_of : List ℕ → Option Verb
verb_of name = option_or (setting_verb name) (option_or (packet_verb name) (question_verb name))

-- how a line with each call is written
abbrev pub form_of : Verb → List ℕ
form_of Open = codes "open VERSION PROJECT FIRMWARE DESIGN table A,B,.. or image HEX"
form_of Enrol = codes "enrol S A,B,.."
form_of Actual = codes "actual A V"
form_of Target = codes "target A V"
form_of Control = codes "control S WORD"
form_of Take = codes "take HEX"
form_of Compose = codes "compose S ROOM"
form_of Sent = codes "sent S NUMBER"
form_of Withheld = codes "withheld S NUMBER"
form_of Marks = codes "marks S A"
form_of Word = codes "word S"
form_of Flags = codes "flags S"
form_of Key = codes "key S"
form_of Reading = codes "reading S"
