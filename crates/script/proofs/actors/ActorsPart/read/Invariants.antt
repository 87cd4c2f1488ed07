use Rattle.std.proofs.Common.{◌≡◌, length}
use Rattle.script.specs.Actors.{actors_in, actors_of}
use Rattle.script.specs.Lists.{comma, list_in, numbers_in, parts_of}
use Rattle.script.proofs.Entries.{kept_with}
use Rattle.script.proofs.actors.ActorsPart.read.Given as goal

abbrev pub invariant-loop-entry : goal.invariant-loop-entry
invariant-loop-entry l = record {
  laid : l.list ≡ actors_of (actors_in l.list);
  kept : kept_with (actors_in l.list) (numbers_in l.place (parts_of comma l.left)) ≡ list_in l.place l.text;
}

abbrev pub decreases-loop-entry : goal.decreases-loop-entry
decreases-loop-entry l = length l.left
