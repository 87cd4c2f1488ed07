use Rattle.std.proofs.Common.{sym, ◌∙◌, rules}
use borrow.Author.Tests.{tests}
use Rattle.std.proofs.lemmas.Iterator.{YieldsList-from_slice}
use Rattle.std.proofs.lemmas.Iterator.Search.{position_from_yields_List}
use Rattle.hexadecimal.proofs.Fronts.{digits_found, place_or_length}
use Rattle.hexadecimal.proofs.digits.digits_ahead.Goals as goal

pub returns : goal.returns
returns c =
    let s = c.args.line.now in
    place_or_length _ s c.unwrap_or.ensures (position_from_yields_List _ _ _ _ c.position.ensures.ran (YieldsList-from_slice s (cc)) (λ x b q k. search (rules, tests))) ∙ sym (digits_found s)
