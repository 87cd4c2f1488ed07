use Rattle.std.proofs.Common.{arith}
use Rattle.hub.proofs.Written.{finished}
use Rattle.hub.proofs.refresh.finish.Goals as goal

pub returns : goal.returns
returns c =
    finished c.args.draft c.args.buf.now c.close.new.buf c.close.result c.unwrap.result
    c.unwrap.ensures c.close.ensures.answer c.close.ensures.bytes c.close.ensures.back (omega arith)
