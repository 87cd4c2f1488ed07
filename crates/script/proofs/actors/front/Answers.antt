use Rattle.std.proofs.Common.{sym, arith}
use Rattle.std.proofs.lemmas.List.{take_all}
use Rattle.script.proofs.actors.front.Goals as goal

pub returns-else-count-entries : goal.returns-else-count-entries
returns-else-count-entries c = sym (take_all c.args.count c.args.entries.now (omega arith))
