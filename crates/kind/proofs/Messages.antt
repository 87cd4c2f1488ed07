-- One message, read and written, for every lawful kind.
use Rattle.std.proofs.Common.{◌≡◌, ℕ, ◌+◌, ◌-◌, ◌/◌, ◌%◌, ◌^◌, ◌<◌, ◌≤◌, true, false, List, [], ◌∷◌, ◌++◌, length, get_or, take, drop, Some, None, Ok, refl, ap, ◌∙◌, ap₂, arith}
use Rattle.std.proofs.lemmas.List.{take-take, take_at, drop-drop, length-append}
use Rattle.std.proofs.lemmas.Bool.{eq-eqb, le-ltb, ne_eqb, or_from}
use borrow.Rule.Slice.PartMut.{put_mid, post_of}
use Rattle.kind.specs.Layout.{Distinct, Layout, Lawful, ReadsBack, Whole, broken, word, read_of, message_of, padded}
use Rattle.kind.specs.Words.{word_round}

pub not_broken : (s : List ℕ) → Whole s → broken s ≡ false
not_broken s whole = or_from _ _ (le-ltb (length s) 4 whole.0) (or_from _ _ (le-ltb (get_or s 0 0) 4 whole.1) (le-ltb (length s) (get_or s 0 0) whole.2))

-- what the reader answers once its checks have passed
pub accepted : {R : Type 0} (k : Layout R) (s : List ℕ) (place : ℕ) → Whole s → get_or s 1 0 ≡ k.ident → get_or s 0 0 ≡ k.size
    → k.admits (word s 2) ≡ true → read_of k s place ≡ Ok (Some (word s 2, k.decode (take (k.size - 4) (drop 4 s))))
accepted k s place whole id same admitted =
    let w = not_broken s whole in
    let i = eq-eqb (get_or s 1 0) k.ident id in
    let e = eq-eqb (get_or s 0 0) k.size same in
    simp (w, i, e, admitted)

-- and where the message has another MessageID
pub passed_over : {R : Type 0} (k : Layout R) (s : List ℕ) (place : ℕ) → Whole s → (get_or s 1 0 ≡ k.ident → ⊥) → read_of k s place ≡ Ok None
passed_over k s place whole other =
    let w = not_broken s whole in
    let i = ne_eqb (get_or s 1 0) k.ident other in
    simp (w, i)

-- the data's own bytes, out of the four that hold them
data_bytes : (s : List ℕ) (n : ℕ) → length s ≡ n → n ≤ 4 → take n (padded s) ≡ s
data_bytes s n e h = take-take n 4 (s ++ (0 ∷ 0 ∷ 0 ∷ 0 ∷ [])) h ∙ take_at s (0 ∷ 0 ∷ 0 ∷ 0 ∷ []) n e

-- what is written is whole, whatever follows it
pub whole_written : {R : Type 0} (k : Layout R) → Lawful k → (actor : ℕ) (r : R) (rest : List ℕ) → Whole (message_of k actor r ++ rest)
whole_written k laws actor r rest =
    let long = laws.long r in
    let sized : length (message_of k actor r ++ rest) ≡ 4 + length (k.encode r) + length rest = simp length-append (omega arith) in
    (omega (arith, laws.least), laws.least, omega (arith, laws.least))

module _ {R : Type 0} (k : Layout R) (laws : Lawful k) (actor : ℕ) (r : R) where
  -- the four bytes of the head, and then the data, laid over a buffer's front
  pub laid : (out head content encoded : List ℕ) (size : ℕ) → size ≡ k.size → head ≡ k.size ∷ k.ident ∷ actor % 256 ∷ actor / 256 % 256 ∷ []
      → content ≡ take (size - 4 - 0) encoded → encoded ≡ padded (k.encode r)
      → put_mid 4 (size - 4) (head ++ post_of 0 4 out) content ≡ message_of k actor r ++ drop k.size out
  laid out head content encoded size same heads contents enc =
      let long = laws.long r in
      let same_data : content ≡ k.encode r =
      contents ∙ ap (take (size - 4 - 0)) enc ∙ data_bytes (k.encode r) (size - 4 - 0) (omega arith) (omega (arith, laws.most)) in
      let behind : drop (size - 4) (drop 4 out) ≡ drop k.size out = drop-drop (size - 4) 4 out ∙ ap (λ (n : ℕ). drop n out) (omega (arith, laws.least)) in
      ap₂ (λ (h d : List ℕ). put_mid 4 (size - 4) (h ++ post_of 0 4 out) d) heads same_data ∙ ap (λ (l : List ℕ). message_of k actor r ++ l) behind

  -- what is written reads back, whatever follows it
  pub reads_back : (rest : List ℕ) → actor < 2 ^ 16 → k.admits actor ≡ true → ReadsBack k actor r (message_of k actor r ++ rest)
  reads_back rest small admitted fit place =
      let s : List ℕ = message_of k actor r ++ rest in
      let long = laws.long r in
      let same : word s 2 ≡ actor = word_round actor small in
      let content : take (k.size - 4) (k.encode r ++ rest) ≡ k.encode r = take_at (k.encode r) rest (k.size - 4) (omega arith) in
      let read = accepted k s place (whole_written k laws actor r rest) refl refl (ap k.admits same ∙ admitted) in
      let back = ap k.decode content ∙ laws.round r fit in
      read ∙ ap₂ (λ a v. Ok (Some (a, v))) same back

-- what is written as one kind is none of a kind with another MessageID
pub distinct : {R S : Type 0} (k : Layout R) (l : Layout S) → Lawful k → Distinct k l
distinct k l laws other actor r rest place = passed_over l (message_of k actor r ++ rest) place (whole_written k laws actor r rest) other
