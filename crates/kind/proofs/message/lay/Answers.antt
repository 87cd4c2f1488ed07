use Rattle.std.proofs.Common.{◌≡◌, ℕ, ◌/◌, ◌%◌, List, [], ◌∷◌, get_or, drop, sym, ap, ◌∙◌, subst, rules}
use Rattle.kind.specs.Layout.{ReadsBack}
use Rattle.kind.proofs.Messages.{laid, reads_back}
use Rattle.kind.proofs.message.lay.Goals as goal

pub returns : goal.returns
returns g c =
    let k = g.K.Kind.layout in
    let bound = g.met.K.Kind in
    let laws = bound.lawful in
    let out = c.args.out.now in
    let actor = c.args.actor in
    let r = c.args.record in
    let lo = ap (λ (l : List ℕ). get_or l 0 0) c.to_le_bytes.ensures in
    let hi = ap (λ (l : List ℕ). get_or l 1 0) c.to_le_bytes.ensures in
    let heads : c.copy_from_slice.new.self ≡ k.size ∷ k.ident ∷ actor % 256 ∷ actor / 256 % 256 ∷ [] = cc (bound.ident, bound.sized) in
    let whole = laid k laws actor r out _ _ c.encode-data.result _ (c.LEN-size.ensures ∙ bound.sized) heads c.copy_from_slice-2.ensures.after c.encode-data.ensures in
    record {
      bytes = whole;
      back = subst (ReadsBack k actor r) (sym whole) (reads_back k laws actor r (drop k.size out) (search rules) c.requires.admitted);
    }
