-- What a line of a script says.
use Rattle.std.specs.Prelude.{ℕ, ◌-◌, Bool, cond, ◌&&◌, ◌||◌, List, length, drop, Some, None, Ok, Err, Option, Result, ◌==◌, slice_index}
use Rattle.script.specs.Calls.{Said, call_in, said}
use Rattle.script.specs.Reasons.{Why, line_end, why}
use Rattle.script.specs.declared.line.Line.{Line}
use Rattle.script.specs.declared.line.Line.TheVariants as line

-- Nothing, what is wanted of the call before it, a call, or none and why.
pub data Says : Type 0 where
  passed : Says
  wanted : List ℕ → Says
  call : Said → Says
  unknown : Why → Says

-- a line in memory, with its texts and lists as they are
abbrev pub says : Line → Says
says line.Passed = passed
says (line.Wanted outcome) = wanted outcome.now
says (line.Call c) = call (said c)
says (line.Unknown reason) = unknown (why reason)

-- an empty line, and one that begins with #
abbrev pub passed_over : List ℕ → Bool
passed_over text = length text == 0 || slice_index text 0 == 35

-- a carriage return before the line feed
abbrev pub ends_otherwise : List ℕ → Bool
ends_otherwise text = slice_index text (length text - 1) == 13

-- an equals sign and a space, and behind them an outcome
abbrev pub wish_in : List ℕ → Option (List ℕ)
wish_in text = cond (slice_index text 0 == 61 && slice_index text 1 == 32) (Some (drop 2 text)) None

abbrev pub called : Result Said Why → Says
called (Ok c) = call c
called (Err e) = unknown e

abbrev pub wished : Option (List ℕ) → Says → Says
wished (Some outcome) other = wanted outcome
wished None other = other

-- What a line says, in this order: whether it is passed over, how it ends, what it wants, which call it is.
abbrev pub line_in : List ℕ → Says
line_in text = cond (passed_over text) passed (cond (ends_otherwise text) (unknown line_end) (wished (wish_in text) (called (call_in text))))
