use Rattle.std.proofs.Common.{Some, rules, ◌*◌}
use Rattle.store.specs.Meaning.{lawful_pair}
use Rattle.image.specs.Layout.{page_count, pair_at}
use Rattle.image.proofs.Values.{told_of_each}
use Rattle.image.proofs.Counting.{counted}
use Rattle.image.proofs.image.has_lawful_values.Goals as goal

pub returns : goal.returns
returns c =
    let bs = c.args.block.now in
    told_of_each bs (4 * page_count bs) c.all.result
    (counted (λ i. lawful_pair (Some (pair_at bs i))) (λ x b f h. search rules) c.new.result (4 * page_count bs) c.all.result c.new.ensures.start c.new.ensures.end c.new.ensures.exhausted c.all.ensures.runs)
