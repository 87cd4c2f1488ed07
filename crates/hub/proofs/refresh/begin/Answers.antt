use Rattle.std.proofs.Common.{sym, ◌∙◌, rules}
use Rattle.hub.proofs.Written.{began}
use Rattle.hub.proofs.refresh.begin.Goals as goal

pub returns : goal.returns
returns c =
    began c.args.words c.args.buf.now c.begin.new.buf c.unwrap.result
    (record { version = search rules; number = search rules; project = search rules; firmware = search rules; switch = search rules; design = search rules })
    (sym c.unwrap.ensures ∙ c.begin.ensures.answer) c.begin.ensures.bytes c.requires.room
