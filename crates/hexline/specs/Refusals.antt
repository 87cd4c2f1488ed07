-- How lines are printed, and refusals among them.
use Rattle.std.specs.Prelude.{ℕ, List, [], ◌∷◌, ◌++◌, codes}
use Rattle.fault.specs.declared.Fault.{Fault}
use Rattle.fault.specs.Written.{fault_text}
use Rattle.hexadecimal.specs.Lines.{line_feed}

-- a text on a line of its own
abbrev pub as_line : List ℕ → List ℕ
as_line text = text ++ line_feed ∷ []

-- a refusal tells its number and its place
abbrev pub refused_text : Fault → List ℕ
refused_text e = codes "refused " ++ fault_text e
