use Rattle.std.proofs.Common.{◌≡◌, ℕ, ◌+◌, ◌*◌, ◌++◌, [], ◌∷◌, length, take, drop, set, refl, sym, ap, ◌∙◌, ap₂, rules, arith}
use Rattle.std.proofs.lemmas.List.{length-take-le, take_all, take_at}
use Rattle.hexadecimal.specs.Encoding.{digits_of}
use Rattle.hexadecimal.proofs.Pairs.{length_digits_of, digits_more, both_written}
use Rattle.hexadecimal.proofs.Spelling.{digits_spell, reads_back}
use Rattle.hexadecimal.proofs.digits.spell.Goals as goal

pub loop-i-init : goal.loop-i-init
unfolding digits_of
loop-i-init c = refl

pub loop-i-preserved : goal.loop-i-preserved
loop-i-preserved c =
    let s = c.args.bytes.now in
    let i = c.loop-i.i in
    let h = c.parted.result.0 in
    let l = c.parted.result.1 in
    let so_far = length_digits_of (take i s) in
    let front : length (take i s) ≡ i = search (length-take-le, rules) in
    let more = digits_more s i c.loop-i-test.true in
    let next : 2 * i + 1 + 1 ≡ 2 * (i + 1) = omega arith in
    ap (λ o. set (set o (2 * i) h) (2 * i + 1) l) c.loop-i.invariant
    ∙ both_written (digits_of (take i s)) c.args.out.now (2 * i) (2 * i + 1) h l (omega arith) refl (omega arith)
    ∙ ap₂ (λ ds (k : ℕ). ds ++ drop k c.args.out.now) (ap₂ (λ (a b : ℕ). digits_of (take i s) ++ a ∷ b ∷ []) c.parted.ensures.high c.parted.ensures.low ∙ sym more) next

pub returns : goal.returns
returns c =
    let s = c.args.bytes.now in
    let out = c.args.out.now in
    let all : 2 * c.loop-i.i ≡ 2 * length s = omega arith in
    let left = c.loop-i.invariant ∙ ap₂ (λ bs (k : ℕ). digits_of bs ++ drop k out) (take_all c.loop-i.i s (omega arith)) all in
    let front : take (2 * length s) c.loop-i.out ≡ digits_of s = ap (take (2 * length s)) left ∙ take_at (digits_of s) (drop (2 * length s) out) (2 * length s) (length_digits_of s) in
    let spelt = digits_spell s (λ i. (c.type_inv.bytes i).fits) in
    record { buffer = left; spelt = rw front spelt; back = rw front (reads_back s spelt) }
