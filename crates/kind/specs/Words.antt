-- Words, masks and signed words, there and back.
use Rattle.std.specs.Prelude.{◌≡◌, ℕ, ◌+◌, ◌*◌, ◌/◌, ◌%◌, ◌^◌, ◌<◌, min, ℤ, FitsSigned, bit_and, refl}
use Rattle.std.proofs.Common.{sym, ap, ◌∙◌, arith, to_z, of_z}
use Rattle.std.proofs.Math.Nat.{div-div-eq-div-mul}
use Rattle.std.proofs.Math.Arith.{bin_ind}
use Rattle.std.specs.Int.Bits.{and_step}
use Rattle.std.proofs.lemmas.Nat.{and_le_r}
use Rattle.std.specs.Int.{w16}
use Rattle.std.proofs.lemmas.Int.{to_z-of_z, ints}
use Rattle.kind.specs.Layout.{word, word_bytes}
use Rattle.kind.specs.Kinds.{long, long_bytes}

-- a mask applied twice
pub and_again : (a m : ℕ) → bit_and (bit_and a m) m ≡ bit_and a m
and_again = bin_ind (λ (n : ℕ). (m : ℕ) → bit_and (bit_and n m) m ≡ bit_and n m) (λ m. refl) (λ n ih m.
    let x : ℕ = bit_and n m in
    let s : x ≡ bit_and (n / 2) (m / 2) * 2 + min (n % 2) (m % 2) = and_step n m in
    let q : x / 2 ≡ bit_and (n / 2) (m / 2) = omega arith in
    let h : bit_and (x / 2) (m / 2) ≡ bit_and (n / 2) (m / 2) = ap (λ (y : ℕ). bit_and y (m / 2)) q ∙ ih (m / 2) in
    omega (arith, and_step x m))

digit : (n q : ℕ) → q ≡ n / 256 → n ≡ n % 256 + q * 256
digit n q e = omega arith

joined : (n q r s a b d e : ℕ) → n ≡ a + q * 256 → q ≡ b + r * 256 → r ≡ d + s * 256 → s ≡ e → a + b * 256 + d * 65536 + e * 16777216 ≡ n
joined n q r s a b d e h₁ h₂ h₃ h₄ = omega arith

pub long_round : (n : ℕ) → n < 2 ^ 32 → long (long_bytes n) ≡ n
long_round n h =
    joined n (n / 256) (n / 65536) (n / 16777216) _ _ _ _
    (digit n (n / 256) refl)
    (digit (n / 256) (n / 65536) (sym (div-div-eq-div-mul n 256 256)))
    (digit (n / 65536) (n / 16777216) (sym (div-div-eq-div-mul n 65536 256)))
    (omega arith)

pub flags_round : (mask : ℕ) → mask < 2 ^ 32 → (bits : ℕ) → bit_and (long (long_bytes (bit_and bits mask))) mask ≡ bit_and bits mask
flags_round mask small bits =
    ap (λ (n : ℕ). bit_and n mask) (long_round (bit_and bits mask) (omega (arith, and_le_r bits mask))) ∙ and_again bits mask

pub word_round : (n : ℕ) → n < 2 ^ 16 → word (word_bytes n) 0 ≡ n
word_round n h = omega arith

of_z_below : (z : ℤ) → FitsSigned w16 z → of_z w16 z < 2 ^ 16
of_z_below z f = omega (arith, ints)

pub value_round : (z : ℤ) → FitsSigned w16 z → to_z w16 (word (word_bytes (of_z w16 z)) 0) ≡ z
value_round z f = ap (to_z w16) (word_round (of_z w16 z) (of_z_below z f)) ∙ to_z-of_z w16 z f
