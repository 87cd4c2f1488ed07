-- A list that a loop maps in place.
use Rattle.std.proofs.Common.{◌≡◌, ℕ, ◌+◌, ◌<◌, List, ◌++◌, map, length, get_or, take, drop, set, ap, ◌∙◌, arith}
use Rattle.std.proofs.lemmas.List.Edits.{map_over_more}
use Rattle.std.proofs.lemmas.List.{get_or_default}

-- a loop that maps a list in place has come to i, and writes y there
pub map_more : {X : Type 0} (f : X → X) (xs ys : List X) (i : ℕ) (y d : X) → i < length xs → length ys ≡ length xs → ys ≡ map f (take i xs) ++ drop i xs → y ≡ f (get_or ys i d) → set ys i y ≡ map f (take (i + 1) xs) ++ drop (i + 1) xs
map_more f xs ys i y d h l v e =
    ap (set ys i) e ∙ map_over_more f xs ys i (get_or ys i d) h v (get_or_default ys i d (get_or ys i d) (omega (arith, h, l)))
