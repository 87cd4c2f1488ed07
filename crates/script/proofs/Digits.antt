-- A word read digit by digit, and the number that it writes.
use Rattle.std.proofs.Common.{◌≡◌, ℕ, ◌+◌, ◌*◌, ◌<◌, ◌≤◌, Bool, true, false, cond, not, ◌&&◌, eqb, leb, List, [], ◌∷◌, length, get_or, drop, is_some, Some, None, Option, unwrap_or, sym, refl, ap, ◌∙◌, arith}
use Rattle.std.proofs.lemmas.List.{at_drop_more, at_drop_all}
use Rattle.std.proofs.Math.Nat.{le-mul_of_pos_right}
use Rattle.std.proofs.lemmas.Bool.{cond-true, false≢true, le-leb, leb-false, lt-leb}
use Rattle.hexadecimal.specs.Digit.{value_of}
use Rattle.script.specs.Numbers.{all_digits, behind, is_digit_to, number_to}

module _ (base : ℕ) where
  abbrev pub with_digit : ℕ → ℕ → ℕ → Option ℕ
  with_digit most n c = cond (is_digit_to base c && leb (n * base + value_of c) most) (Some (n * base + value_of c)) None

  -- what is left of a word, read behind n
  abbrev pub read_from : ℕ → ℕ → List ℕ → Option ℕ
  read_from most n word = cond (all_digits base word && leb (behind base n word) most) (Some (behind base n word)) None

  pub read_none : (most n : ℕ) → n ≤ most → read_from most n [] ≡ Some n
  unfolding all_digits behind
  read_none most n h = cond-true (leb n most) (Some n) None (le-leb n most h)

  -- one digit more, or the first byte that ends the reading
  pub read_more : (most n c : ℕ) (word : List ℕ) (m : ℕ) → with_digit most n c ≡ Some m → read_from most n (c ∷ word) ≡ read_from most m word
  unfolding all_digits behind
  read_more most n c word m e = go (is_digit_to base c) (leb (n * base + value_of c) most) e
    where
      go : (digit fits : Bool) → cond (digit && fits) (Some (n * base + value_of c)) None ≡ Some m
          → cond ((digit && all_digits base word) && leb (behind base (n * base + value_of c) word) most) (Some (behind base (n * base + value_of c) word)) None ≡ read_from most m word
      go true true q = ap (λ (x : ℕ). read_from most x word) (ap (λ (o : Option ℕ). unwrap_or o (n * base + value_of c)) q)
      go true false q = absurd (false≢true (ap is_some q))
      go false fits q = absurd (false≢true (ap is_some q))

  pub more_at : (most n : ℕ) (word : List ℕ) (i m : ℕ) → i < length word → with_digit most n (get_or word i 0) ≡ Some m → read_from most n (drop i word) ≡ read_from most m (drop (i + 1) word)
  more_at most n word i m h e = at_drop_more (read_from most n) word i 0 h ∙ read_more most n (get_or word i 0) (drop (i + 1) word) m e

  pub all_read : (most n : ℕ) (word : List ℕ) (i : ℕ) → n ≤ most → length word ≤ i → read_from most n (drop i word) ≡ Some n
  all_read most n word i h e = at_drop_all (read_from most n) word i e ∙ read_none most n h

  -- a word of one byte or more
  pub number_is : (most : ℕ) (word : List ℕ) → false ≡ eqb (length word) 0 → read_from most 0 word ≡ number_to base most word
  number_is most word some = ap (λ (b : Bool). cond (not b && (all_digits base word && leb (behind base 0 word) most)) (Some (behind base 0 word)) None) some

-- in any base but none, digits behind a number make it no less
module _ (base : ℕ) (some : 0 < base) where
  grows : (n : ℕ) (word : List ℕ) → n ≤ behind base n word
  unfolding behind
  grows n [] = omega arith
  grows n (c ∷ word) =
      let more : n ≤ n * base = le-mul_of_pos_right n some in
      let ih = grows (n * base + value_of c) word in
      omega arith

  pub read_stop : (most n c : ℕ) (word : List ℕ) → with_digit base most n c ≡ None → read_from base most n (c ∷ word) ≡ None
  unfolding all_digits behind
  read_stop most n c word e = go (is_digit_to base c) (leb (n * base + value_of c) most) refl e
    where
      over : (all : Bool) → cond (all && false) (Some (behind base (n * base + value_of c) word)) None ≡ None
      over true = refl
      over false = refl

      go : (digit fits : Bool) → leb (n * base + value_of c) most ≡ fits → cond (digit && fits) (Some (n * base + value_of c)) None ≡ None
          → cond ((digit && all_digits base word) && leb (behind base (n * base + value_of c) word) most) (Some (behind base (n * base + value_of c) word)) None ≡ None
      go true true l q = absurd (false≢true (sym (ap is_some q)))
      go true false l q =
          let large : leb (behind base (n * base + value_of c) word) most ≡ false = lt-leb (behind base (n * base + value_of c) word) most (omega (arith, grows (n * base + value_of c) word, leb-false (n * base + value_of c) most l)) in
          ap (λ (t : Bool). cond (all_digits base word && t) (Some (behind base (n * base + value_of c) word)) None) large ∙ over (all_digits base word)
      go false fits l q = refl

  pub stop_at : (most n : ℕ) (word : List ℕ) (i : ℕ) → i < length word → with_digit base most n (get_or word i 0) ≡ None → read_from base most n (drop i word) ≡ None
  stop_at most n word i h e = at_drop_more (read_from base most n) word i 0 h ∙ read_stop most n (get_or word i 0) (drop (i + 1) word) e
