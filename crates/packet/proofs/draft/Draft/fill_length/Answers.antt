use Rattle.std.proofs.Common.{ℕ, ◌+◌, List, ◌++◌, take, sym, ◌∙◌, subst, ap₂}
use Rattle.std.proofs.lemmas.List.{drop-drop}
use Rattle.packet.specs.Drafts.{ReadsBack}
use Rattle.packet.proofs.Packets.{packet_back}
use Rattle.packet.proofs.draft.Draft.fill_length.Goals as goal

pub returns-clause-back : goal.returns-clause-back
returns-clause-back c =
    let buf = c.args.buf.now in
    let draft = c.args.self.now in
    let length = c.copy_from_slice.ensures.after ∙ c.to_le_bytes.ensures in
    let whole = ap₂ (λ (l r : List ℕ). take 2 buf ++ (l ++ r)) length (drop-drop 2 2 buf) in
    subst (λ (l : List ℕ). ReadsBack draft buf (take (16 + draft.behind) l)) (sym whole) (packet_back draft buf)
