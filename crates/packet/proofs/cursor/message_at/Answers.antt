use Rattle.std.proofs.Common.{ℕ, List, sym, ap, ◌∙◌}
use Rattle.std.proofs.lemmas.List.{take_rest}
use Rattle.packet.specs.Messages.{message_of}
use Rattle.packet.proofs.Walks.{walked, whole_at}
use Rattle.packet.proofs.cursor.message_at.Goals as goal

pub returns-clause-walked : goal.returns-clause-walked
returns-clause-walked c =
    let s = c.args.payload.now in
    let place = c.args.place in
    let same = c.read.ensures.answer ∙ ap (λ (l : List ℕ). message_of l place) (take_rest s place) in
    walked s place c.read.result c.requires (sym same) (whole_at s place c.read.result c.requires c.read.ensures.whole)
