use Rattle.std.proofs.Common.{◌∙◌, arith}
use Rattle.switch.proofs.Touches.{touched_here, untouched}
use Rattle.switch.proofs.items.touch.Goals as goal

pub returns-then-item-actor : goal.returns-then-item-actor
returns-then-item-actor c =
    let same = c.loop-item.invariant.same in
    let met = rw same at c.if-item-actor.true in
    rw same (touched_here c.args.actor c.args.items.now c.loop-item.item-index c.note.new.self c.loop-item-test.true c.requires c.loop-item.invariant.unmet met c.note.ensures)

pub returns : goal.returns
returns c =
    let l = c.loop-item in
    l.invariant.same ∙ untouched c.args.actor c.args.items.now (λ k m. l.invariant.unmet k (omega (arith, c.loop-item-test.false)))
