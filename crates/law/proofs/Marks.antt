-- How marks differ, and where a move leads them.
use Rattle.std.proofs.Common.{◌≡◌, sym, refl, subst}
use Rattle.model.specs.declared.mark.Change.TheVariants.{Answered, Composed}
use Rattle.model.specs.declared.mark.Mark.{Mark}
use Rattle.model.specs.declared.mark.Mark.TheVariants.{Settled, Due, UnderWay}
use Rattle.model.specs.Marks.{moved}

abbrev IsDue : Mark → Type 0
IsDue Settled = ⊥
IsDue Due = Unit {0}
IsDue UnderWay = ⊥

pub settled≢due : Settled ≡ Due → ⊥
settled≢due e = subst IsDue (sym e) tt

pub under_way≢due : UnderWay ≡ Due → ⊥
under_way≢due e = subst IsDue (sym e) tt

-- nothing is due once composed
pub not_due_composed : (μ : Mark) → moved μ Composed ≡ Due → ⊥
not_due_composed Settled e = settled≢due e
not_due_composed Due e = under_way≢due e
not_due_composed UnderWay e = under_way≢due e

-- what is not due, the awaited answer settles
pub settled_answered : (μ : Mark) → (μ ≡ Due → ⊥) → moved μ Answered ≡ Settled
settled_answered Settled d = refl
settled_answered Due d = absurd (d refl)
settled_answered UnderWay d = refl
