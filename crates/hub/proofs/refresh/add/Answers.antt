use Rattle.std.proofs.Common.{sym, ◌∙◌}
use Rattle.hub.proofs.Written.{wrote_one}
use Rattle.hub.proofs.refresh.add.Goals as goal

pub returns : goal.returns
returns c = wrote_one c.args.draft c.unwrap.result c.args.buf.now c.add.new.buf c.args.record c.requires.fits (sym c.unwrap.ensures ∙ c.add.ensures.answer) c.add.ensures.bytes
