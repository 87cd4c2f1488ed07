use Rattle.std.proofs.Common.{◌≡◌, ℕ, List, rules, [], ◌∷◌, ◌++◌, take, Ok, Err, ap, ◌∙◌}
use Rattle.script.specs.Actors.{actors_in, actors_of}
use Rattle.script.specs.Lists.{comma, numbers_in, parts_of}
use Rattle.script.specs.Reasons.{made, read_as, why}
use Rattle.script.proofs.Entries.{entry_last, entry_more, first_entry, has_entries, is_laid, kept_with}
use Rattle.script.proofs.actors.ActorsPart.read.Goals as goal

pub returns-in_err-read : goal.returns-in_err-read
returns-in_err-read c =
    let kept = actors_in c.loop-entry.list in
    let left = c.loop-entry.left.now in
    let e = why c.in_err-read.field-0.0 in
    let told : read_as c.from_residual.result ≡ Err e = search rules in
    told
    ∙ ap (made actors_of) (first_entry c.args.place kept (Err e) c.in-Some.entry.now (parts_of comma c.in-Some.rest.now) (parts_of comma left) c.in-Some.ensures.parts c.in_err-read.ensures
    ∙ c.loop-entry.invariant.kept)

pub returns-in_err-read-2 : goal.returns-in_err-read-2
returns-in_err-read-2 c =
    let kept = actors_in c.loop-entry.list in
    let left = c.loop-entry.left.now in
    let e = why c.in_err-read-2.field-0.0 in
    let told : read_as c.from_residual-in_err-read-2.result ≡ Err e = search rules in
    told
    ∙ ap (made actors_of) (first_entry c.args.place kept (Err e) left [] (parts_of comma left) c.in_default.ensures.parts c.in_err-read-2.ensures
    ∙ c.loop-entry.invariant.kept)

pub loop-entry-preserved : goal.loop-entry-preserved
loop-entry-preserved c =
    let kept = actors_in c.loop-entry.list in
    let left = c.loop-entry.left.now in
    let n = c.in_ok-read.field-0 in
    let rest = parts_of comma c.in-Some.rest.now in
    let more = take 257 (kept ++ n ∷ []) in
    record {
      laid = is_laid c.keep.new.list more c.keep.ensures;
      kept =
          ap (λ (ns : List ℕ). kept_with ns (numbers_in c.args.place rest)) (has_entries c.keep.new.list more c.keep.ensures)
          ∙ entry_more kept n (numbers_in c.args.place rest)
          ∙ first_entry c.args.place kept (Ok n) c.in-Some.entry.now rest (parts_of comma left) c.in-Some.ensures.parts c.in_ok-read.ensures
          ∙ c.loop-entry.invariant.kept;
    }

pub returns : goal.returns
returns c =
    let kept = actors_in c.loop-entry.list in
    let left = c.loop-entry.left.now in
    let n = c.in_ok-read-2.field-0 in
    ap Ok c.keep-2.ensures
    ∙ ap (made actors_of) (entry_last c.args.place kept n
    ∙ first_entry c.args.place kept (Ok n) left [] (parts_of comma left) c.in_default.ensures.parts c.in_ok-read-2.ensures
    ∙ c.loop-entry.invariant.kept)
