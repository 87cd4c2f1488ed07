use Rattle.std.proofs.Common.{◌≡◌, ap, ◌∙◌}
use Rattle.image.specs.Layout.{block_in, lawful_block}
use Rattle.image.specs.LawfulValues.{block_parts}
use Rattle.image.proofs.Values.{at_front}
use Rattle.image.proofs.image.Image.keep.Goals as goal

pub invariant_of-result : goal.invariant_of-result
invariant_of-result c =
    let bs = c.args.block.now in
    let e : block_in c.copy_front.new.room ≡ bs = ap block_in c.copy_front.ensures ∙ at_front bs _ (block_parts bs c.requires.lawful).0 in
    record { long = c.copy_front.auto.room; lawful = ap lawful_block e ∙ c.requires.lawful }

pub returns : goal.returns
returns c =
    let bs = c.args.block.now in
    ap block_in c.copy_front.ensures ∙ at_front bs _ (block_parts bs c.requires.lawful).0
