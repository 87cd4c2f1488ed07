-- What a line spells, and what decoding it gives.
use Rattle.std.proofs.Common.{◌≡◌, ℕ, zero, suc, ◌+◌, ◌*◌, ◌/◌, ◌%◌, ◌<◌, ◌≤◌, true, false, List, [], ◌∷◌, ◌++◌, length, get_or, take, drop, is_ok, Ok, Err, Result, sym, refl, ap, ◌∙◌, subst, ap₂, arith}
use Rattle.std.proofs.lemmas.List.{take_at, drop_at}
use Rattle.std.proofs.lemmas.Bool.{cond-true, cond-false, cond_both, both_ways}
use Rattle.std.proofs.lemmas.Bool.Decides.{nat_tests}
use Rattle.fault.specs.declared.CallFault.TheVariants.{HexLine}
use Rattle.fault.specs.declared.Fault.{Fault}
use Rattle.fault.specs.declared.Fault.TheVariants.{Call}
use Rattle.hexadecimal.specs.Digit.{is_digit, value_of, StandsFor}
use Rattle.hexadecimal.specs.Decoding.{longest, digits_ahead, bytes_of, decode_tells, decode_leaves, Spells, nothing, byte, Faithful}
use Rattle.hexadecimal.specs.Encoding.{digits_of, ReadsBack}
use Rattle.hexadecimal.proofs.Pairs.{length_bytes_of, length_digits_of}
use Rattle.hexadecimal.proofs.Table.{stands_digit, digit_stands, written_stands}

spelt_length : {s bs : List ℕ} → Spells s bs → length s ≡ 2 * length bs
spelt_length nothing = refl
spelt_length (byte x y more) = let ih = spelt_length more in omega arith

spelt_ahead : {s bs : List ℕ} → Spells s bs → digits_ahead s ≡ length s
unfolding digits_ahead
spelt_ahead nothing = refl
spelt_ahead (byte {a = a} {b = b} {high = h} {low = l} {line = s} x y more) =
    let ih = spelt_ahead more in
    let low = cond-true (is_digit b) (1 + digits_ahead s) 0 (stands_digit b l y).0 in
    let high = cond-true (is_digit a) (1 + digits_ahead (b ∷ s)) 0 (stands_digit a h x).0 in
    omega arith

spelt_bytes : {s bs : List ℕ} → Spells s bs → bytes_of s ≡ bs
unfolding bytes_of
spelt_bytes nothing = refl
spelt_bytes (byte {a = a} {b = b} {high = h} {low = l} x y more) = ap₂ (λ (v : ℕ) vs. v ∷ vs) (ap₂ (λ (u v : ℕ). u * 16 + v) (stands_digit a h x).1 (stands_digit b l y).1) (spelt_bytes more)

ahead_within : (s : List ℕ) → digits_ahead s ≤ length s
unfolding digits_ahead
ahead_within [] = omega arith
ahead_within (c ∷ s) = let ih = ahead_within s in cond_both (is_digit c) (1 + digits_ahead s) 0 (λ n. n ≤ suc (length s)) (λ _. omega arith) (λ _. omega arith)

-- a line of digits alone begins with one, and so does what follows it
ahead_parts : (c : ℕ) (s : List ℕ) → digits_ahead (c ∷ s) ≡ suc (length s) → (is_digit c ≡ true) × (digits_ahead s ≡ length s)
unfolding digits_ahead
ahead_parts c s e = grind arith

spells_bytes : (s : List ℕ) (n : ℕ) → length s ≡ 2 * n → digits_ahead s ≡ length s → Spells s (bytes_of s)
unfolding bytes_of
spells_bytes [] n even e = nothing
spells_bytes (a ∷ []) n even e = absurd (omega arith)
spells_bytes (a ∷ b ∷ s) zero even e = absurd (omega arith)
spells_bytes (a ∷ b ∷ s) (suc n) even e =
    let x = ahead_parts a (b ∷ s) e in
    let y = ahead_parts b s x.1 in
    byte (digit_stands a x.0) (digit_stands b y.0) (spells_bytes s n (omega arith) y.1)

-- when decoding accepts
tells_ok : (s : List ℕ) (room n : ℕ) → length s ≡ 2 * n → length s ≤ longest → digits_ahead s ≡ length s → n ≤ room → decode_tells s room ≡ Ok n
tells_ok s room n even short all fits = grind (arith, nat_tests)

ok_tells : (s : List ℕ) (room n : ℕ) → decode_tells s room ≡ Ok n → (length s ≡ 2 * n) × (length s ≤ longest) × (digits_ahead s ≡ length s) × (n ≤ room)
ok_tells s room n e = let w = ahead_within s in grind (arith, nat_tests)

leaves_ok : (s out : List ℕ) (n : ℕ) → decode_tells s (length out) ≡ Ok n → decode_leaves s out ≡ bytes_of s ++ drop n out
leaves_ok s out n e =
    let even = (ok_tells s (length out) n e).0 in
    let half : length s / 2 ≡ n = omega arith in
    cond-true _ _ _ (ap is_ok e) ∙ ap (λ (k : ℕ). bytes_of s ++ drop k out) half

leaves_err : (s out : List ℕ) (f : Fault) → decode_tells s (length out) ≡ Err f → decode_leaves s out ≡ out
leaves_err s out f e = cond-false _ _ _ (ap is_ok e)

pub decode_spelt : (s bs out : List ℕ) → Spells s bs → length s ≤ longest → length bs ≤ length out → (decode_tells s (length out) ≡ Ok (length bs)) × (decode_leaves s out ≡ bs ++ drop (length bs) out)
decode_spelt s bs out spelt short fits =
    let told = tells_ok s (length out) (length bs) (spelt_length spelt) short (spelt_ahead spelt) fits in
    (told, leaves_ok s out (length bs) told ∙ ap (λ l. l ++ drop (length bs) out) (spelt_bytes spelt))

decode_sound : (s out : List ℕ) (n : ℕ) → decode_tells s (length out) ≡ Ok n → (length s ≤ longest) × (n ≤ length out) × Spells s (take n (decode_leaves s out)) × (drop n (decode_leaves s out) ≡ drop n out)
decode_sound s out n e =
    let t = ok_tells s (length out) n e in
    let left = leaves_ok s out n e in
    let long = length_bytes_of s n t.0 in
    let front : take n (decode_leaves s out) ≡ bytes_of s = ap (take n) left ∙ take_at (bytes_of s) (drop n out) n long in
    let back : drop n (decode_leaves s out) ≡ drop n out = ap (drop n) left ∙ drop_at (bytes_of s) (drop n out) n long in
    (t.1, t.3, subst (λ bs. Spells s bs) (sym front) (spells_bytes s n t.0 t.2), back)

-- which place a refusal of the line tells
bad_place : (s : List ℕ) (room p : ℕ) → decode_tells s room ≡ Err (Call HexLine p) → p < length s → length s ≤ longest → p ≡ digits_ahead s
bad_place s room p e inside short = grind (arith, nat_tests)

ahead_digit : (s : List ℕ) (k : ℕ) → k < digits_ahead s → is_digit (get_or s k 0) ≡ true
unfolding digits_ahead
ahead_digit [] k h = absurd (omega arith)
ahead_digit (c ∷ s) zero h = grind arith
ahead_digit (c ∷ s) (suc k) h = ahead_digit s k (grind arith)

ahead_bad : (s : List ℕ) (p : ℕ) → p ≡ digits_ahead s → p < length s → is_digit (get_or s p 0) ≡ false
unfolding digits_ahead
ahead_bad [] p e h = absurd (omega arith)
ahead_bad (c ∷ s) zero e h = grind arith
ahead_bad (c ∷ s) (suc p) e h = ahead_bad s p (grind arith) (omega arith)

decode_place : (s : List ℕ) (room p : ℕ) → decode_tells s room ≡ Err (Call HexLine p) → p < length s → length s ≤ longest → ((v : ℕ) → StandsFor (get_or s p 0) v → ⊥) × ((k : ℕ) → k < p → (v : ℕ) × StandsFor (get_or s k 0) v)
decode_place s room p e inside short =
    let here = bad_place s room p e inside short in (
      λ v stands. both_ways _ (ahead_bad s p here inside) (stands_digit (get_or s p 0) v stands).0,
      λ k below. (value_of (get_or s k 0), digit_stands (get_or s k 0) (ahead_digit s k (omega arith))),
    )

odd_count : (s : List ℕ) (room : ℕ) → decode_tells s room ≡ Err (Call HexLine (length s)) → length s ≤ longest → (length s % 2 ≡ 1) × (digits_ahead s ≡ length s)
odd_count s room e short = let w = ahead_within s in grind (arith, nat_tests)

decode_odd : (s : List ℕ) (room : ℕ) → decode_tells s room ≡ Err (Call HexLine (length s)) → length s ≤ longest → (length s % 2 ≡ 1) × ((k : ℕ) → k < length s → (v : ℕ) × StandsFor (get_or s k 0) v)
decode_odd s room e short =
    let t = odd_count s room e short in
    (t.0, λ k below. (value_of (get_or s k 0), digit_stands (get_or s k 0) (ahead_digit s k (omega arith))))

pub decode_faithful : (s out : List ℕ) (told : Result ℕ Fault) (after : List ℕ) → told ≡ decode_tells s (length out) → after ≡ decode_leaves s out → Faithful s out told after
decode_faithful s out told after t a = rw (t, a) record {
  sound = decode_sound s out;
  complete = λ bs. decode_spelt s bs out;
  one = λ xs ys x y. sym (spelt_bytes x) ∙ spelt_bytes y;
  kept = leaves_err s out;
  place = decode_place s (length out);
  odd = decode_odd s (length out);
}

-- bytes written as digits are spelt by them
pub digits_spell : (bs : List ℕ) → ((i : ℕ) → get_or bs i 0 < 256) → Spells (digits_of bs) bs
unfolding digits_of
digits_spell [] small = nothing
digits_spell (b ∷ bs) small =
    let fits : b < 256 = small 0 in
    let halves : b / 16 * 16 + b % 16 ≡ b = omega arith in
    subst (λ (v : ℕ). Spells (digits_of (b ∷ bs)) (v ∷ bs)) halves (byte (written_stands (b / 16) (omega arith)) (written_stands (b % 16) (omega arith)) (digits_spell bs (λ i. small (suc i))))

pub reads_back : (bs : List ℕ) → Spells (digits_of bs) bs → ReadsBack (digits_of bs) bs
reads_back bs spelt short room fits = decode_spelt (digits_of bs) bs room spelt (let long = length_digits_of bs in omega arith) fits
