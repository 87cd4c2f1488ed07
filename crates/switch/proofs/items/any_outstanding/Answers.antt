use Rattle.std.proofs.Common.{◌∙◌, rules, tests}
use Rattle.std.proofs.lemmas.Iterator.{YieldsList-from_slice}
use Rattle.std.proofs.lemmas.Iterator.Search.{any_from_yields_List}
use Rattle.model.specs.Marks.{is_outstanding}
use Rattle.switch.proofs.Searches.{any_of}
use Rattle.switch.proofs.items.any_outstanding.Goals as goal

pub returns : goal.returns
returns c =
    any_from_yields_List (λ x. is_outstanding x.mark) _ _ c.any.result c.any.ensures.ran (YieldsList-from_slice c.args.items.now cc) (λ x b q k. search (rules, tests))
    ∙ any_of c.args.items.now
