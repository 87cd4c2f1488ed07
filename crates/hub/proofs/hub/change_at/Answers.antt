use Rattle.std.proofs.Common.{refl}
use Rattle.hub.proofs.Changes.{change_here, change_nowhere}
use Rattle.hub.proofs.hub.change_at.Goals as goal

pub returns-in-Some : goal.returns-in-Some
returns-in-Some g c = λ f makes.
    change_here c.args.id f c.args.switches.now c.in-Some.i _ _ c.in-Some.ensures (makes _ _ (record { shown = _; shows = refl; left = _; met = c.change.ensures; leaves = refl }))

pub returns-in_default : goal.returns-in_default
returns-in_default g c = λ f makes. change_nowhere c.args.id f c.args.switches.now c.in_default.ensures
