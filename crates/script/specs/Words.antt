-- A text in two at a separator.
use Rattle.std.specs.Prelude.{ℕ, ◌+◌, cond, List, length, take, drop, Some, None, Option, nat_lt}
use Rattle.hexadecimal.specs.Lines.{length_to}

-- what stands before the first separator and what stands after it, where there is one
abbrev pub cut_at : ℕ → List ℕ → Option (List ℕ × List ℕ)
cut_at separator text =
    cond (nat_lt (length_to separator text) (length text)) (Some (take (length_to separator text) text, drop (length_to separator text + 1) text)) None
