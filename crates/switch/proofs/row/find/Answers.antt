use Rattle.std.proofs.Common.{◌==◌, ◌∙◌, rules, tests}
use Rattle.std.proofs.lemmas.Iterator.{YieldsList-from_slice}
use Rattle.std.proofs.lemmas.Iterator.Search.{find_from_yields_List}
use Rattle.switch.proofs.Searches.{found}
use Rattle.switch.proofs.row.find.Goals as goal

pub returns : goal.returns
returns c = find_from_yields_List (λ m. m.id == c.args.id) _ _ c.find.result c.find.ensures.ran (YieldsList-from_slice c.args.switches.now cc) (λ x b q k. search (rules, tests)) ∙ found c.args.id _
