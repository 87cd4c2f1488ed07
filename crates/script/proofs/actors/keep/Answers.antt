use Rattle.std.proofs.Common.{arith}
use Rattle.script.proofs.Entries.{added, left_out}
use Rattle.script.proofs.actors.keep.Goals as goal

pub returns-then-list-lt257 : goal.returns-then-list-lt257
returns-then-list-lt257 c = added c.args.list.now c.args.actor c.requires (omega arith)

pub returns-else-list-lt257 : goal.returns-else-list-lt257
returns-else-list-lt257 c = left_out c.args.list.now c.args.actor c.requires (omega arith) (omega arith)
