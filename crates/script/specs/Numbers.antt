-- Numbers as a script writes them: decimal digits, or 0x and hexadecimal ones, and a minus before a value below zero.
use Rattle.std.specs.Prelude.{ℕ, ◌+◌, ◌*◌, Bool, true, cond, not, ◌&&◌, List, [], ◌∷◌, length, drop, ℤ, pos, neg_ℤ, Some, None, Option, ◌==◌, nat_le, nat_lt, slice_index}
use Rattle.std.specs.Option.{option_map}
use Rattle.hexadecimal.specs.Digit.{is_digit, value_of}

-- a digit of a number to that base
abbrev pub is_digit_to : ℕ → ℕ → Bool
is_digit_to base c = is_digit c && nat_lt (value_of c) base

unfoldable pub all_digits : ℕ → List ℕ → Bool
all_digits base [] = true
all_digits base (c ∷ word) = is_digit_to base c && all_digits base word

-- the number that digits write behind those of n
unfoldable pub behind : ℕ → ℕ → List ℕ → ℕ
behind base n [] = n
behind base n (c ∷ word) = behind base (n * base + value_of c) word

-- a number to a base is one digit or more, and fits its place
abbrev pub number_to : ℕ → ℕ → List ℕ → Option ℕ
number_to base most word = cond (not (length word == 0) && (all_digits base word && nat_le (behind base 0 word) most)) (Some (behind base 0 word)) None

-- whether a word begins with 0x
abbrev pub is_hexadecimal : List ℕ → Bool
is_hexadecimal word = slice_index word 0 == 48 && slice_index word 1 == 120

unfoldable pub number_in : ℕ → List ℕ → Option ℕ
number_in most word = cond (is_hexadecimal word) (number_to 16 most (drop 2 word)) (number_to 10 most word)

abbrev pub below_zero : ℕ → ℤ
below_zero n = neg_ℤ (pos n)

-- a value, in two bytes with its sign
abbrev pub value_in : List ℕ → Option ℤ
value_in word = cond (slice_index word 0 == 45) (option_map below_zero (number_in 32768 (drop 1 word))) (option_map pos (number_in 32767 word))
