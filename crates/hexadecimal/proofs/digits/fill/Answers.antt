use Rattle.std.proofs.Common.{◌≡◌, ℕ, ◌+◌, ◌*◌, ◌/◌, List, [], ◌∷◌, ◌++◌, length, get_or, sym, ap, ◌∙◌, ap₂, arith}
use Rattle.std.proofs.lemmas.List.{take_all, take_more, take_more_set}
use Rattle.std.specs.Simd.{first_chunks}
use Rattle.hexadecimal.specs.Digit.{value_of}
use Rattle.hexadecimal.specs.Decoding.{bytes_of}
use Rattle.hexadecimal.proofs.Pairs.{length_bytes_of, byte_of_pair}
use Rattle.hexadecimal.proofs.digits.fill.Goals as goal

pub loop-i-preserved : goal.loop-i-preserved
loop-i-preserved c =
    let s = c.args.line.now in
    let n = length c.args.out.now in
    let i = c.loop-i.i in
    let long = length_bytes_of s n c.requires in
    let half : length s / 2 ≡ n = omega arith in
    let pairs = c.as_chunks.ensures.front ∙ ap (λ (k : ℕ). first_chunks 2 k s) half in
    let byte = c.joined.ensures ∙ ap (λ (ps : List (List ℕ)). value_of (get_or (get_or ps i []) 0 0) * 16 + value_of (get_or (get_or ps i []) 1 0)) pairs ∙ sym (byte_of_pair s n i c.requires (omega arith)) in
    take_more_set c.loop-i.out i c.joined.result (omega arith) ∙ ap₂ (λ (xs : List ℕ) (x : ℕ). xs ++ x ∷ []) c.loop-i.invariant byte ∙ sym (take_more (bytes_of s) i 0 (omega arith))

pub returns : goal.returns
returns c =
    let long = length_bytes_of c.args.line.now (length c.args.out.now) c.requires in
    sym (take_all c.loop-i.i c.loop-i.out (omega arith)) ∙ c.loop-i.invariant ∙ take_all c.loop-i.i (bytes_of c.args.line.now) (omega arith)
