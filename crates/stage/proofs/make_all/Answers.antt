use Rattle.std.proofs.Common.{List, ℕ, subst}
use Rattle.hub.specs.Memory.{hub_model}
use Rattle.stage.specs.Calls.{Makes}
use Rattle.stage.specs.Lines.{TakesNext}
use Rattle.stage.specs.Reviews.{review_of}
use Rattle.stage.specs.declared.lines.Next.{Next}
use Rattle.stage.proofs.Reading.{all_made, more_made, none_more}
use Rattle.stage.proofs.make_all.Goals.{in-Line+in_ok-make-in-Line, in-Passed}
use Rattle.stage.proofs.make_all.Goals as goal

pub returns-in-End : goal.returns-in-End
returns-in-End g c =
    let m = g.S.ActorStore.meaning in
    let known = g.R.Read.remaining in
    let line = c.next.new.line.items in
    let there = subst (λ (n : Next). TakesNext (known c.loop.script.reader) (known c.next.new.self.reader) n line) c.in-End.is c.in_ok-next.ensures in
    all_made (known c.args.script.now.reader) (known c.loop.script.reader) (known c.next.new.self.reader) line (hub_model m c.args.desk.now.hub) (review_of c.args.review.now)
    (hub_model m c.loop.desk.hub) (review_of c.loop.review) c.loop.invariant there

pub loop-preserved : goal.loop-preserved
loop-preserved g c =
    let m = g.S.ActorStore.meaning in
    let known = g.R.Read.remaining in
    let first = known c.args.script.now.reader in
    let old = known c.loop.script.reader in
    let new = known c.next.new.self.reader in
    let line = c.next.new.line.items in
    let h = hub_model m c.args.desk.now.hub in
    let r = review_of c.args.review.now in
    let k = hub_model m c.loop.desk.hub in
    let q = review_of c.loop.review in
    elim c.match-branch-2.branch [
      | in-Line+in_ok-make-in-Line w ↦
          let there = subst (λ (n : Next). TakesNext old new n line) w.in-Line.is c.in_ok-next.ensures in
          let after = hub_model m w.make.new.desk.hub in
          let told = review_of w.make.new.review in
          let made = subst (λ (t : List ℕ). Makes t k q after told) w.as_slice.ensures.value w.in_ok-make-in-Line.ensures in
          rw (w.desk-is, w.review-is) (more_made first old new line h r k q after told c.loop.invariant there made)
      | in-Passed w ↦
          let there = subst (λ (n : Next). TakesNext old new n line) w.in-Passed.is c.in_ok-next.ensures in
          rw (w.desk-is, w.review-is) (none_more first old new line h r k q c.loop.invariant there)
    ]
