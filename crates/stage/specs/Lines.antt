-- Reading the lines of a script.
use Rattle.std.specs.Prelude.{◌≡◌, ℕ, zero, suc, ◌<◌, Bool, true, false, ◌&&◌, List, [], length, Some, IfSome, Option, nat_lt}
use Rattle.hexadecimal.specs.Lines.{line_length, line_of, rest_of}
use Rattle.script.specs.Line.{passed_over}
use Rattle.stage.specs.declared.lines.Front.{Front}
use Rattle.stage.specs.declared.lines.Front.TheVariants as front
use Rattle.stage.specs.declared.lines.Next.{Next}
use Rattle.stage.specs.declared.lines.Next.TheVariants as next

-- the first line of a text, and what is left then; or that none is left
abbrev pub FirstOf : List ℕ → Option (List ℕ) → Bool → List ℕ → Type 0
FirstOf text new true line = (0 < length text) × (line ≡ line_of text) × (new ≡ Some (rest_of text))
FirstOf text new false line = text ≡ []

-- where it is known what there is to read
abbrev pub TakesLine : Option (List ℕ) → Option (List ℕ) → Bool → List ℕ → Type 0
TakesLine old new there line = IfSome old (λ text. FirstOf text new there line)

-- a text begins with a line that is passed over
abbrev pub passes_first : List ℕ → Bool
passes_first text = nat_lt 0 (length text) && passed_over (line_of text)

-- the first n lines of a text are passed over, and this is left
abbrev pub PassedLines : ℕ → List ℕ → List ℕ → Type 0
PassedLines zero text rest = rest ≡ text
PassedLines (suc n) text rest = (passes_first text ≡ true) × PassedLines n (rest_of text) rest

-- and each of them ends with a line feed, so that nothing can follow in it
abbrev pub EndedLines : ℕ → List ℕ → List ℕ → Type 0
EndedLines zero text rest = rest ≡ text
EndedLines (suc n) text rest = (passes_first text ≡ true) × (line_length text < length text) × EndedLines n (rest_of text) rest

-- What was taken off a text, and what is left of it then: lines that are passed over, one at least; or nothing; or no byte was left.
abbrev pub FrontIn : List ℕ → Option (List ℕ) → Front → Type 0
FrontIn text new (front.Passed n) = (0 < n) × (rest : List ℕ) × PassedLines n text rest × (new ≡ Some rest)
FrontIn text new front.Unread = new ≡ Some text
FrontIn text new front.End = text ≡ []

-- where it is known what there is to read
abbrev pub FrontOf : Option (List ℕ) → Option (List ℕ) → Front → Type 0
FrontOf old new front = IfSome old (λ text. FrontIn text new front)

-- What comes next: a line is taken; or some, one at least, are passed over; or none is left.
abbrev pub TakesNext : Option (List ℕ) → Option (List ℕ) → Next → List ℕ → Type 0
TakesNext old new next.Line line = TakesLine old new true line
TakesNext old new next.Passed line = IfSome old (λ text. (n : ℕ) × (0 < n) × (rest : List ℕ) × PassedLines n text rest × (new ≡ Some rest))
TakesNext old new next.End line = TakesLine old new false line
