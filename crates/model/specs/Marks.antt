-- How a mark moves: a change makes it due, compose sends what is due, the awaited answer settles what is under way, and a packet withheld brings it back.
use Rattle.std.specs.Prelude.{ℕ, Bool, true, false, List, codes}
use Rattle.model.specs.declared.mark.Mark.{Mark}
use Rattle.model.specs.declared.mark.Mark.TheVariants.{Settled, Due, UnderWay}
use Rattle.model.specs.declared.mark.Change.{Change}
use Rattle.model.specs.declared.mark.Change.TheVariants.{Changed, Composed, Answered, Withheld}

abbrev pub moved : Mark → Change → Mark
moved mark Changed = Due
moved Settled Composed = Settled
moved Due Composed = UnderWay
moved UnderWay Composed = UnderWay
moved Settled Answered = Settled
moved Due Answered = Due
moved UnderWay Answered = Settled
moved Settled Withheld = Settled
moved Due Withheld = Due
moved UnderWay Withheld = Due

-- outstanding means not settled
abbrev pub is_outstanding : Mark → Bool
is_outstanding Settled = false
is_outstanding Due = true
is_outstanding UnderWay = true

-- a mark in words
abbrev pub mark_name : Mark → List ℕ
mark_name Settled = codes "settled"
mark_name Due = codes "due"
mark_name UnderWay = codes "under way"
