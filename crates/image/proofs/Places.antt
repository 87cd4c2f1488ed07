-- A value written at its place: every other word of the block stays.
use Rattle.std.proofs.Common.{◌≡◌, ℕ, ◌+◌, ◌*◌, ◌/◌, ◌%◌, ◌<◌, ◌≤◌, Bool, true, false, cond, ◌&&◌, eqb, leb, ◌≢◌, ◌⊎◌, List, length, get_or, take, set, ℤ, Some, None, sym, refl, ap, ◌∙◌, ap₂, inl, inr, ⊎_elim, arith, length-set, get_or-set_other, get_or-set_same, to_z-of_z, w16, SFits, to_z, of_z}
use lib.Seq.{take-set-lt}
use mir.Facts.{Fits-of_z}
use Rattle.std.proofs.lemmas.Bool.{eqb-true, eqb-false, cases_order, cases_eq, and_from, true≢false}
use Rattle.store.specs.Meaning.{lawful, lawful_pair, replaced}
use Rattle.store.specs.declared.actor_store.Half.{Half}
use Rattle.store.specs.declared.actor_store.Half.TheVariants.{Actual, Target}
use Rattle.store.proofs.Meanings.{lawful_replaced}
use Rattle.kind.specs.Layout.{word}
use Rattle.image.specs.Layout.{signed_at, page_count, length_of, place_of, pair_at, has_actor, actors_of, lawful_frame, lawful_values, lawful_block, block_in, written}
use Rattle.image.specs.LawfulValues.{block_parts, actor_bounds, value_lawful}
use Rattle.image.proofs.Values.{inside, all_lawful, count_in}

-- the pairs of two actors stand apart
apart : (i j : ℕ) → 1 ≤ i → i < j → place_of Actual i + 4 ≤ place_of Actual j
apart i j o l = omega arith

-- every value stands behind the head of the block
pub behind : (h : Half) (i : ℕ) → 132 ≤ place_of h i
behind Actual i = omega arith
behind Target i = omega arith

pub within : (h : Half) (n i : ℕ) → has_actor n i ≡ true → place_of h i + 1 < length_of n
within Actual n i t = omega (arith, inside n i (actor_bounds n i t).0 (actor_bounds n i t).1)
within Target n i t = inside n i (actor_bounds n i t).0 (actor_bounds n i t).1

module _ (bytes : List ℕ) (at : ℕ) (v : ℤ) where
  pub byte_kept : (k : ℕ) → k ≢ at → k ≢ at + 1 → get_or (written bytes at v) k 0 ≡ get_or bytes k 0
  byte_kept k n m = get_or-set_other (set bytes at (of_z w16 v % 256)) (at + 1) k _ 0 m ∙ get_or-set_other bytes at k _ 0 n

  pub length_written : length (written bytes at v) ≡ length bytes
  length_written = length-set (set bytes at (of_z w16 v % 256)) (at + 1) _ ∙ length-set bytes at _

  pub word_kept : (b : ℕ) → (b + 2 ≤ at) ⊎ (at + 2 ≤ b) → word (written bytes at v) b ≡ word bytes b
  word_kept b (inl l) = ap₂ (λ x y. x + y * 256) (byte_kept b (omega arith) (omega arith)) (byte_kept (b + 1) (omega arith) (omega arith))
  word_kept b (inr l) = ap₂ (λ x y. x + y * 256) (byte_kept b (omega arith) (omega arith)) (byte_kept (b + 1) (omega arith) (omega arith))

  pub word_written : at + 1 < length bytes → SFits w16 v → signed_at (written bytes at v) at ≡ v
  word_written h f =
      let b : of_z w16 v < 65536 = (Fits-of_z f).fits in
      let n : at ≢ at + 1 = omega arith in
      let l : length (set bytes at (of_z w16 v % 256)) ≡ length bytes = length-set bytes at _ in
      ap₂ (λ x y. to_z w16 (x + y * 256))
      (get_or-set_other (set bytes at (of_z w16 v % 256)) (at + 1) at _ 0 n ∙ get_or-set_same bytes at _ 0 (omega arith))
      (get_or-set_same (set bytes at (of_z w16 v % 256)) (at + 1) _ 0 (omega arith))
      ∙ ap (to_z w16) (omega arith) ∙ to_z-of_z f

  value_kept : (b : ℕ) → (b + 2 ≤ at) ⊎ (at + 2 ≤ b) → signed_at (written bytes at v) b ≡ signed_at bytes b
  value_kept b o = ap (to_z w16) (word_kept b o)

  pub pair_kept : (k : ℕ) → (place_of Actual k + 4 ≤ at) ⊎ (at + 2 ≤ place_of Actual k) → pair_at (written bytes at v) k ≡ pair_at bytes k
  pair_kept k (inl l) = ap₂ (λ (x y : ℤ). (x, y)) (value_kept (place_of Actual k) (inl (omega arith))) (value_kept (place_of Target k) (inl (omega arith)))
  pair_kept k (inr l) = ap₂ (λ (x y : ℤ). (x, y)) (value_kept (place_of Actual k) (inr (omega arith))) (value_kept (place_of Target k) (inr (omega arith)))

abbrev head : ℕ → ℕ → ℕ → ℕ → Bool
head i n l m = eqb i 0x7501 && ((leb 1 n && leb n 16) && (eqb l (length_of n) && eqb m (length_of n)))

-- in the room of a block, the block itself is written
pub block_written : (room : List ℕ) (at : ℕ) (v : ℤ) → 132 ≤ at → at + 1 < length_of (page_count room) → block_in (written room at v) ≡ written (block_in room) at v
block_written room at v b l =
    ap (λ n. take (length_of n) (written room at v)) (byte_kept room at v 25 (omega arith) (omega arith))
    ∙ take-set-lt (length_of (page_count room)) (set room at (of_z w16 v % 256)) (at + 1) _ l
    ∙ ap (λ (xs : List ℕ). set xs (at + 1) (of_z w16 v / 256 % 256)) (take-set-lt (length_of (page_count room)) room at _ (omega arith))

-- the same for a value of one of the block's actors
pub value_put : (room after : List ℕ) (h : Half) (a : ℕ) (v : ℤ) → after ≡ written room (place_of h a) v → has_actor (page_count (block_in room)) a ≡ true → block_in after ≡ written (block_in room) (place_of h a) v
value_put room after h a v e t =
    ap block_in e ∙ block_written room (place_of h a) v (behind h a) (omega (arith, within h (page_count (block_in room)) a t, count_in room))

module _ (bytes : List ℕ) (h : Half) (a : ℕ) (v : ℤ) (f : SFits w16 v) (long : length bytes ≡ length_of (page_count bytes)) (t : has_actor (page_count bytes) a ≡ true) where
  abbrev after : List ℕ
  after = written bytes (place_of h a) v

  count_kept : page_count after ≡ page_count bytes
  count_kept = byte_kept bytes (place_of h a) v 25 (omega (arith, behind h a)) (omega (arith, behind h a))

  other : (h : Half) (k : ℕ) → 1 ≤ k → (k ≡ a → ⊥) → pair_at (written bytes (place_of h a) v) k ≡ pair_at bytes k
  other Actual k o n = go (cases_order k a)
    where
      go : (k ≡ a) ⊎ ((k < a) ⊎ (a < k)) → pair_at (written bytes (place_of Actual a) v) k ≡ pair_at bytes k
      go (inl e) = absurd (n e)
      go (inr (inl l)) = pair_kept bytes (place_of Actual a) v k (inl (apart k a o l))
      go (inr (inr l)) = pair_kept bytes (place_of Actual a) v k (inr (omega (arith, apart a k (actor_bounds _ a t).0 l)))
  other Target k o n = go (cases_order k a)
    where
      go : (k ≡ a) ⊎ ((k < a) ⊎ (a < k)) → pair_at (written bytes (place_of Target a) v) k ≡ pair_at bytes k
      go (inl e) = absurd (n e)
      go (inr (inl l)) = pair_kept bytes (place_of Target a) v k (inl (omega (arith, apart k a o l)))
      go (inr (inr l)) = pair_kept bytes (place_of Target a) v k (inr (omega (arith, apart a k (actor_bounds _ a t).0 l)))

  same : (h : Half) → pair_at (written bytes (place_of h a) v) a ≡ replaced h v (pair_at bytes a)
  same Actual =
      let w = within Actual (page_count bytes) a t in
      ap₂ (λ (x y : ℤ). (x, y)) (word_written bytes (place_of Actual a) v (omega arith) f) (ap (to_z w16) (word_kept bytes (place_of Actual a) v (place_of Target a) (inr (omega arith))))
  same Target =
      let w = within Target (page_count bytes) a t in
      ap₂ (λ (x y : ℤ). (x, y)) (ap (to_z w16) (word_kept bytes (place_of Target a) v (place_of Actual a) (inl (omega arith)))) (word_written bytes (place_of Target a) v (omega arith) f)

  pub actors_after : (k : ℕ) → actors_of after k ≡ cond (eqb k a) (Some (replaced h v (pair_at bytes a))) (actors_of bytes k)
  actors_after k = ap (λ n. cond (has_actor n k) (Some (pair_at after k)) None) count_kept ∙ go (eqb k a) refl (has_actor (page_count bytes) k) refl
    where
      go : (b : Bool) → eqb k a ≡ b → (s : Bool) → has_actor (page_count bytes) k ≡ s → cond s (Some (pair_at after k)) None ≡ cond b (Some (replaced h v (pair_at bytes a))) (cond s (Some (pair_at bytes k)) None)
      go true e true s = ap (λ j. Some (pair_at after j)) (eqb-true k a e) ∙ ap (λ (p : ℤ × ℤ). Some p) (same h)
      go true e false s = absurd (true≢false (sym t ∙ ap (has_actor (page_count bytes)) (sym (eqb-true k a e)) ∙ s))
      go false e true s = ap (λ (p : ℤ × ℤ). Some p) (other h k (actor_bounds _ k s).0 (eqb-false k a e))
      go false e false s = refl

  frame_after : lawful_frame after ≡ lawful_frame bytes
  frame_after =
      let b = behind h a in
      let i = word_kept bytes (place_of h a) v 0 (inl (omega arith)) in
      let m = word_kept bytes (place_of h a) v 2 (inl (omega arith)) in
      let l = length_written bytes (place_of h a) v in
      ap (λ x. head x (page_count after) (length after) (word after 2)) i
      ∙ ap (λ x. head (word bytes 0) x (length after) (word after 2)) count_kept
      ∙ ap (λ x. head (word bytes 0) (page_count bytes) x (word after 2)) l
      ∙ ap (λ x. head (word bytes 0) (page_count bytes) (length bytes) x) m

  pub lawful_after : lawful v ≡ true → lawful_block bytes ≡ true → lawful_block after ≡ true
  lawful_after l w =
      let p = block_parts bytes w in
      and_from (lawful_frame after) (lawful_values after (4 * page_count after)) (frame_after ∙ p.0)
      (ap (λ n. lawful_values after (4 * n)) count_kept
      ∙ all_lawful after (4 * page_count bytes)
      (λ k o m. ⊎_elim
      (λ e. ap (λ j. lawful_pair (Some (pair_at after j))) e ∙ ap (λ (q : ℤ × ℤ). lawful_pair (Some q)) (same h)
      ∙ lawful_replaced h v (pair_at bytes a) l (value_lawful bytes (4 * page_count bytes) a p.1 (actor_bounds _ a t).0 (actor_bounds _ a t).1))
      (λ n. ap (λ (q : ℤ × ℤ). lawful_pair (Some q)) (other h k o n) ∙ value_lawful bytes (4 * page_count bytes) k p.1 o m)
      (cases_eq k a)))
