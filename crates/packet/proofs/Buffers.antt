-- What writes into a buffer leave.
use Rattle.std.proofs.Common.{◌≡◌, ℕ, ◌+◌, ◌-◌, ◌^◌, ◌<◌, ◌≤◌, true, List, [], ◌++◌, length, take, drop, sym, ap, ◌∙◌, ap₂, append-nil, subst, arith}
use borrow.Rule.Slice.PartMut.{put_mid}
use Rattle.std.proofs.lemmas.List.{drop_all, drop-drop, drop_at, length-drop, length-take-le, take_rest}
use Rattle.std.proofs.lemmas.Bool.{cond-false, le-ltb, not_from_true}
use Rattle.kind.specs.Layout.{Layout, Lawful, ReadsBack, message_of, written_of}
use Rattle.kind.proofs.Messages.{reads_back}
use Rattle.packet.specs.Drafts.{StandsAt, over}

module _ {R : Type 0} (k : Layout R) (laws : Lawful k) (actor : ℕ) (r : R) where
  pub length_message : length (message_of k actor r) ≡ k.size
  length_message = let long = laws.long r in omega arith

  -- a message written at a place, by the writer that sees the buffer from there on
  pub written_over : (buf out : List ℕ) (at : ℕ) → at + k.size ≤ length buf → k.admits actor ≡ true → out ≡ written_of k actor r (take (length buf - at) (drop at buf))
      → put_mid at (length buf - at) buf out ≡ over buf at (message_of k actor r)
  written_over buf out at room admitted e =
      let rest = take_rest buf at in
      let left = length-drop at buf in
      let written : out ≡ message_of k actor r ++ drop k.size (drop at buf) =
      e ∙ ap (written_of k actor r) rest ∙ cond-false _ _ _ (not_from_true _ admitted) ∙ cond-false _ _ _ (le-ltb (length (drop at buf)) k.size (omega arith)) in
      let nothing : drop (length buf - at) (drop at buf) ≡ [] = drop_all (length buf - at) (drop at buf) (omega arith) in
      let long = length_message in
      let behind : drop k.size (drop at buf) ≡ drop (at + length (message_of k actor r)) buf = drop-drop k.size at buf ∙ ap (λ (n : ℕ). drop (at + n) buf) (sym long) in
      ap₂ (λ (a b : List ℕ). take at buf ++ (a ++ b)) written nothing
      ∙ ap (λ (l : List ℕ). take at buf ++ l) (append-nil (message_of k actor r ++ drop k.size (drop at buf)))
      ∙ ap (λ (l : List ℕ). take at buf ++ (message_of k actor r ++ l)) behind

  -- and there it reads back
  pub stands_at : (buf after : List ℕ) (at : ℕ) → at + k.size ≤ length buf → actor < 2 ^ 16 → k.admits actor ≡ true → after ≡ over buf at (message_of k actor r) → StandsAt k actor r at after
  stands_at buf after at room small admitted e =
      let rest : List ℕ = drop (at + length (message_of k actor r)) buf in
      let behind : drop at after ≡ message_of k actor r ++ rest = ap (drop at) e ∙ drop_at (take at buf) (message_of k actor r ++ rest) at (length-take-le at buf (omega arith)) in
      subst (ReadsBack k actor r) (sym behind) (reads_back k laws actor r rest small admitted)
