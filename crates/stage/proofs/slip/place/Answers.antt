use Rattle.std.proofs.Common.{sym, ◌∙◌, rules}
use borrow.Author.Tests.{tests}
use Rattle.std.proofs.lemmas.Iterator.{YieldsList-from_slice}
use Rattle.std.proofs.lemmas.Iterator.Search.{position_from_yields_List}
use Rattle.stage.specs.Slips.{is_for}
use Rattle.stage.proofs.Places.{place_found}
use Rattle.stage.proofs.slip.place.Goals as goal

pub returns-clause-answer : goal.returns-clause-answer
returns-clause-answer c =
    let s = c.args.held.now in
    position_from_yields_List (is_for c.args.switch c.args.number) _ _ _ c.position.ensures.ran (YieldsList-from_slice s (cc)) (λ x b q k. search (rules, tests))
    ∙ sym (place_found c.args.switch c.args.number s)
