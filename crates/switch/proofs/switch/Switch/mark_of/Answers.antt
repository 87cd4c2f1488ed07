use Rattle.std.proofs.Common.{◌≡◌, refl, ap, ◌∙◌, rules, tests}
use Rattle.std.specs.List.{find}
use Rattle.std.specs.Option.{option_map}
use Rattle.std.proofs.lemmas.Iterator.{YieldsList-from_slice}
use Rattle.std.proofs.lemmas.Iterator.Search.{find_from_yields_List}
use Rattle.model.specs.Models.{SwitchModel, is_actor, mark_of_actor}
use Rattle.switch.proofs.Searches.{marked}
use Rattle.switch.proofs.switch.Switch.mark_of.Goals as goal

pub returns : goal.returns
returns c =
    let a = c.args.actor in
    let h : option_map (λ x. x.now) c.find-found.result ≡ find (is_actor a) c.iter.result.rest.now = find_from_yields_List (is_actor a) _ _ c.find-found.result c.find-found.ensures.ran (YieldsList-from_slice _ refl) (λ x b q k. search (rules, tests)) in
    let k : c.map.result ≡ option_map (λ x. x.mark) (option_map (λ x. x.now) c.find-found.result) = search rules in
    k ∙ ap (option_map (λ x. x.mark)) h ∙ marked a _ ∙ ap (mark_of_actor a) c.iter.ensures.rest ∙ ap (λ (m : SwitchModel). mark_of_actor a m.items) c.self.view_is
