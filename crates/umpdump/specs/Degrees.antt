-- A temperature in degrees, with one digit after the point, from the tenths of a degree that a switch sends.
use Rattle.std.specs.Prelude.{ℕ, zero, suc, ◌/◌, ◌%◌, Bool, true, false, List, [], ◌++◌, ℤ, pos, negsuc, codes, decimal, unsigned_abs}
use Rattle.umpdump.specs.declared.degrees.Degrees.{Degrees}

-- a number with its sign; zero has none
abbrev pub signed : Bool → ℕ → ℤ
signed false n = pos n
signed true zero = pos 0
signed true (suc n) = negsuc n

abbrev pub is_below : ℤ → Bool
is_below (pos n) = false
is_below (negsuc n) = true

-- the sign, the whole degrees, and the tenths that are left
abbrev pub degrees_of : ℤ → Degrees
degrees_of tenths = record { below = is_below tenths; whole = unsigned_abs tenths / 10; tenth = unsigned_abs tenths % 10 }

abbrev pub sign_of : Bool → List ℕ
sign_of false = []
sign_of true = codes "-"

abbrev pub degrees_text : Degrees → List ℕ
degrees_text d = sign_of d.below ++ (decimal d.whole ++ (codes "." ++ decimal d.tenth))
