-- The list of actors that is kept in memory.
use Rattle.std.specs.Prelude.{ℕ, ◌-◌, List, ◌++◌, length, take, replicate}
use Rattle.script.specs.declared.actors.Actors.{Actors}

abbrev pub actors_in : Actors → List ℕ
actors_in list = take list.count list.entries

-- the list in memory that has these entries, with zeros behind them
abbrev pub actors_of : List ℕ → Actors
actors_of entries = record { entries = entries ++ replicate (257 - length entries) 0; count = length entries }
