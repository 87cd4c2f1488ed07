-- The words of a script, as they are told.
use Rattle.std.specs.Prelude.{ℕ, cond, ◌&&◌, List, [], ◌∷◌, ◌++◌, length, codes, ◌==◌, nat_le}
use Rattle.std.specs.List.{flat_map}
use Rattle.hexadecimal.specs.Encoding.{digits_of}

-- a printable character as it is, and of any other byte an x and its two digits
abbrev pub shown_byte : ℕ → List ℕ
shown_byte c = cond (nat_le 32 c && nat_le c 126) (c ∷ []) (codes "x" ++ digits_of (c ∷ []))

abbrev pub shown : List ℕ → List ℕ
shown text = cond (length text == 0) (codes "nothing") (flat_map shown_byte text)
