use Rattle.std.proofs.Common.{refl, arith}
use Rattle.image.specs.Layout.{block_in}
use Rattle.image.specs.LawfulValues.{block_parts}
use Rattle.image.proofs.Values.{count_in, framed}
use Rattle.image.proofs.image.Image.page_count.Goals as goal

pub returns : goal.returns
returns c =
    let room = c.args.self.now.block.bytes in
    let f = framed (block_in room) (block_parts (block_in room) c.args.self.now.lawful).0 in
    record { is = refl; few = omega (arith, f.few, count_in room) }
