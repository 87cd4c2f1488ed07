use Rattle.std.proofs.Common.{◌≡◌, length, filter, take, ap, ◌∙◌, rules, tests}
use Rattle.std.proofs.lemmas.Iterator.{YieldsList-from_slice}
use Rattle.std.proofs.lemmas.Iterator.Consumers.{YieldsList-from_filter, count_from_yields_List}
use Rattle.model.specs.Composing.{outstanding_actors}
use Rattle.model.specs.Marks.{is_outstanding}
use Rattle.model.specs.Models.{SwitchModel}
use Rattle.switch.proofs.Searches.{counted}
use Rattle.switch.proofs.switch.Switch.outstanding_actors.Goals as goal

pub returns-clause-answer : goal.returns-clause-answer
returns-clause-answer c =
    let xs = take c.self.inside.count c.self.inside.items in
    let h : c.count.result ≡ length (filter (λ x. is_outstanding x.mark) xs) = count_from_yields_List c.filter.result _ c.count.ensures.ran (YieldsList-from_filter _ (λ x. is_outstanding x.mark) (YieldsList-from_slice xs cc) c.filter.ensures.closure (λ x b q k. search (rules, tests))) in
    h ∙ counted _ ∙ ap (λ (m : SwitchModel). outstanding_actors m.items) c.self.view_is
