use Rattle.std.proofs.Common.{rules}
use Rattle.model.specs.Composing.{item_records, outstanding_actors}
use Rattle.model.specs.Taking.{first_unlisted, heard}
use Rattle.packet.specs.Messages.{messages_of}
use Rattle.worked.proofs.step_examples_stand.Goals as goal

pub returns : goal.returns
unfolding messages_of first_unlisted heard item_records outstanding_actors
returns c = search rules
