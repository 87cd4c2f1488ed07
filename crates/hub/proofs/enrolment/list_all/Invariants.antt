use Rattle.std.proofs.Common.{◌≡◌, [], take, drop}
use Rattle.model.specs.Opening.{entry_fault, new_switch}
use Rattle.hub.proofs.enrolment.list_all.Given as goal

abbrev pub invariant-loop-i : goal.invariant-loop-i
invariant-loop-i g l =
    let m = g.S.ActorStore.meaning l.store in
    (entry_fault m (take l.i l.actors) l.i (drop l.i l.actors) ≡ entry_fault m [] 0 l.actors) × (l.switch ≡ new_switch l.id (take l.i l.actors))
