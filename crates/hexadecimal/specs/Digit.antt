-- The hexadecimal digits, by their character codes, and the halves of a byte that they stand for.
use Rattle.std.specs.Prelude.{◌≡◌, ℕ, ◌+◌, ◌-◌, ◌<◌, Bool, cond, ◌&&◌, ◌||◌, ◌⊎◌, List, codes, nat_le, slice_index}

abbrev pub is_numeral : ℕ → Bool
is_numeral c = nat_le 48 c && nat_le c 57

abbrev pub is_capital : ℕ → Bool
is_capital c = nat_le 65 c && nat_le c 70

abbrev pub is_small : ℕ → Bool
is_small c = nat_le 97 c && nat_le c 102

abbrev pub is_digit : ℕ → Bool
is_digit c = is_numeral c || (is_capital c || is_small c)

-- what a digit stands for, and 0 of any other byte
abbrev pub value_of : ℕ → ℕ
value_of c = cond (is_numeral c) (c - 48) (cond (is_capital c) (c - 65 + 10) (cond (is_small c) (c - 97 + 10) 0))

-- the digits in the order of what they stand for, in both cases
abbrev pub capitals : List ℕ
capitals = codes "0123456789ABCDEF"

abbrev pub smalls : List ℕ
smalls = codes "0123456789abcdef"

-- the digit that is written for a value below sixteen
abbrev pub digit_for : ℕ → ℕ
digit_for v = slice_index capitals v

-- A character stands for the place at which it is in one of the two rows.
abbrev pub StandsFor : ℕ → ℕ → Type 0
StandsFor c v = (v < 16) × ((slice_index capitals v ≡ c) ⊎ (slice_index smalls v ≡ c))
