use Rattle.hub.specs.Memory.{hub_model}
use Rattle.stage.specs.Reviews.{review_of}
use Rattle.stage.proofs.Reading.{MadeSoFar}
use Rattle.stage.proofs.make_all.Given as goal

abbrev pub invariant-loop : goal.invariant-loop
invariant-loop g l =
    let m = g.S.ActorStore.meaning in
    let known = g.R.Read.remaining in
    MadeSoFar (known l.fn.script.reader) (known l.script.reader) (hub_model m l.fn.desk.hub) (review_of l.fn.review) (hub_model m l.desk.hub) (review_of l.review)
