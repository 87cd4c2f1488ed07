use Rattle.bench_hub.proofs.Reading.{next_is}
use Rattle.bench_hub.proofs.head.next_call.Goals as goal

pub returns-clause-answer : goal.returns-clause-answer
returns-clause-answer c = next_is c.args.script.now c.in_ok-head.head c.from-end.result c.in_ok-head.ensures c.from-end.ensures c.if-script-end.false
