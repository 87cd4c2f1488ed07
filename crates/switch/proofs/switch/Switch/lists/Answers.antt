use Rattle.std.proofs.Common.{ap, ◌∙◌, rules, tests}
use Rattle.std.proofs.lemmas.Iterator.{YieldsList-from_slice}
use Rattle.std.proofs.lemmas.Iterator.Search.{any_from_yields_List}
use Rattle.model.specs.Models.{SwitchModel, is_actor, lists_actor}
use Rattle.switch.proofs.Searches.{listed}
use Rattle.switch.proofs.switch.Switch.lists.Goals as goal

pub returns : goal.returns
returns c =
    let a = c.args.actor in
    any_from_yields_List (is_actor a) _ _ c.any.result c.any.ensures.ran (YieldsList-from_slice _ c.iter.ensures.rest) (λ x b q k. search (rules, tests))
    ∙ listed a _
    ∙ ap (λ (m : SwitchModel). lists_actor a m.items) c.self.view_is
