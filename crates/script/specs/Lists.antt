-- Lists of actors: numbers with a comma between each two.
use Rattle.std.specs.Prelude.{ℕ, cond, List, [], ◌∷◌, take, Ok, Err, Result, ◌==◌}
use Rattle.hexadecimal.specs.Lines.{begun_with}
use Rattle.script.specs.Actors.{actors_of}
use Rattle.script.specs.Parts.{short_read}
use Rattle.script.specs.Reasons.{Why, made}
use Rattle.script.specs.declared.actors.Actors.{Actors}
use Rattle.script.specs.declared.place.Place.{Place}

abbrev pub comma : ℕ
comma = 44

-- the parts between the separators, one more than there are separators
unfoldable pub parts_of : ℕ → List ℕ → List (List ℕ)
parts_of separator [] = [] ∷ []
parts_of separator (b ∷ text) = cond (b == separator) ([] ∷ parts_of separator text) (begun_with b (parts_of separator text))

abbrev pub before : Result ℕ Why → Result (List ℕ) Why → Result (List ℕ) Why
before (Err e) rest = Err e
before (Ok n) (Err e) = Err e
before (Ok n) (Ok ns) = Ok (n ∷ ns)

-- each part is a number; the first that is none is why there is no list
unfoldable pub numbers_in : Place → List (List ℕ) → Result (List ℕ) Why
numbers_in place [] = Ok []
numbers_in place (part ∷ parts) = before (short_read place part) (numbers_in place parts)

-- A list. No call takes as many as 257 actors, so that of a longer list the first 257 do for all: it is refused for its length.
abbrev pub list_in : Place → List ℕ → Result (List ℕ) Why
list_in place text = made (take 257) (numbers_in place (parts_of comma text))

-- the list in memory that is read of it
abbrev pub list_read : Place → List ℕ → Result Actors Why
list_read place text = made actors_of (list_in place text)
