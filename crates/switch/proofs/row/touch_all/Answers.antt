use Rattle.model.specs.Models.{touched}
use Rattle.switch.proofs.Changes.{map_more}
use Rattle.switch.proofs.row.touch_all.Goals as goal

pub loop-switch-preserved : goal.loop-switch-preserved
loop-switch-preserved c =
    map_more (touched c.args.actor) c.args.switches.now c.loop-switch.switches c.loop-switch.switch-index c.touch.new.self c.switch-item.result c.loop-switch-test.true c.loop-switch.auto.switches c.loop-switch.invariant
    c.touch.ensures
