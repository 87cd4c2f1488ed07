use Rattle.std.proofs.Common.{rules}
use Rattle.hexadecimal.proofs.Shown.{digits_text, digits_front}
use Rattle.hexadecimal.proofs.digits.text_in.Goals as goal

pub unwrap-requires : goal.unwrap-requires
unwrap-requires c =
    let text = digits_text c.args.bytes.now (λ i. (c.type_inv.bytes i).fits) in
    let front = digits_front c.args.bytes.now _ _ c.spell.ensures.buffer in
    search rules

pub returns : goal.returns
returns c = let front = digits_front c.args.bytes.now _ _ c.spell.ensures.buffer in search rules
