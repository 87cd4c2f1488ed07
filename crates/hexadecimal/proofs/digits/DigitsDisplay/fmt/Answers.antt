use Rattle.std.proofs.Common.{◌++◌, ◌∙◌, rules, append-nil}
use Rattle.std.proofs.Output.{has_written_append, has_written_of_eq}
use Rattle.std.proofs.lemmas.List.{nil_from_length}
use Rattle.std.specs.Slice.Iter.{chunks_rest}
use Rattle.hexadecimal.specs.Encoding.{digits_of}
use Rattle.hexadecimal.proofs.Shown.{shown_more}
use Rattle.hexadecimal.proofs.digits.DigitsDisplay.fmt.Goals as goal

pub loop-bytes-preserved : goal.loop-bytes-preserved
loop-bytes-preserved g c =
    let steps = c.in-Some.ensures.steps in (
      search rules,
      tt,
      steps.0 ∙ c.loop-bytes.invariant.2,
      λ plain.
          let so_far = c.loop-bytes.invariant.3 plain in (
            so_far.0 ++ digits_of c.in-Some.bytes.now,
            has_written_append _ _ _ _ _ _ so_far.1 (search rules),
            shown_more so_far.0 _ c.in-Some.bytes.now (chunks_rest c.next.new.self) steps.1.0 ∙ so_far.2,
          ),
    )

pub returns-clause-writes : goal.returns-clause-writes
unfolding digits_of
returns-clause-writes g c = λ plain _.
    let so_far = c.loop-bytes.invariant.3 plain in
    let none = nil_from_length _ c.in-None.ensures.steps.1.0 in
    has_written_of_eq _ _ _ _ _ (rw (none, append-nil) at so_far.2) so_far.1
