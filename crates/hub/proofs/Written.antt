-- Records written behind a draft.
use Rattle.std.proofs.Common.{◌≡◌, ℕ, zero, suc, ◌+◌, ◌*◌, ◌<◌, ◌≤◌, Bool, true, false, cond, not, eqb, ltb, List, [], ◌∷◌, ◌++◌, length, get_or, take, drop, IfOk, Ok, Result, sym, refl, ap, ◌∙◌, subst, ap₂, append_assoc, append-nil, arith}
use Rattle.std.proofs.lemmas.List.{drop-drop, length-append, take-append-drop, take_more}
use Rattle.std.proofs.lemmas.Slice.{drop-put_mid}
use Rattle.std.proofs.lemmas.Bool.{and_parts, cond-false, not-true}
use Rattle.std.specs.List.{flat_map}
use Rattle.fault.specs.declared.Fault.{Fault}
use Rattle.packet.specs.declared.draft.Closed.{Closed}
use Rattle.packet.specs.declared.draft.Draft.{Draft}
use Rattle.packet.specs.declared.message.Record.{Record}
use Rattle.packet.specs.declared.message.Record.TheVariants.{Control}
use Rattle.packet.specs.declared.descriptor.Descriptor.{Descriptor}
use Rattle.packet.specs.Drafts as drafts
use Rattle.packet.specs.Drafts.{Drafting, ReadsBack, RecordFits, WordsFit, added, added_bytes, begun, begun_bytes, closed, closed_bytes, full, length_of, open_bytes, over, size_of}
use Rattle.packet.specs.Packets.{packet_bytes, record_bytes}
use Rattle.packet.specs.Words.{major}
use Rattle.packet.proofs.Spelling.{past, same_answer}
use Rattle.kind.specs.Layout.{word_bytes}
use Rattle.packet.proofs.Packets.{add_granted, record_sized}
use Rattle.model.specs.declared.item.Item.{Item}
use Rattle.model.specs.Marks.{is_outstanding}
use Rattle.switch.specs.Items.{all_named}
use Rattle.model.specs.Composing.{actor_records, item_records, outstanding_actors, records_for}
use Rattle.store.specs.Meaning.{Known}
use Rattle.model.specs.declared.mark.Mark.{Mark}
use Rattle.model.specs.declared.mark.Mark.TheVariants.{Settled}
use Rattle.model.specs.Models.{SwitchModel}
use Rattle.hub.specs.Compositions.{packet_length}
use Rattle.hub.specs.Writing.{Began, Finished, Wrote}

joined_append : (xs ys : List Record) → flat_map record_bytes (xs ++ ys) ≡ flat_map record_bytes xs ++ flat_map record_bytes ys
joined_append [] ys = refl
joined_append (x ∷ xs) ys = ap (λ (l : List ℕ). record_bytes x ++ l) (joined_append xs ys) ∙ sym (append_assoc (record_bytes x) (flat_map record_bytes xs) (flat_map record_bytes ys))

pub wrote_nothing : (d : Draft) (buf : List ℕ) → Wrote d buf [] d buf
wrote_nothing d buf = record { drafting = λ w rs p. subst (λ (l : List Record). Drafting w l d buf) (sym (append-nil rs)) p; size = omega arith; beyond = λ n h. refl }

pub wrote_then : (d e f : Draft) (a b c : List ℕ) (xs ys : List Record) → Wrote d a xs e b → Wrote e b ys f c → Wrote d a (xs ++ ys) f c
wrote_then d e f a b c xs ys p q =
    let one = p.size in
    let two = q.size in
    let all = ap length (joined_append xs ys) ∙ length-append (flat_map record_bytes xs) (flat_map record_bytes ys) in
    record {
      drafting = λ w rs h. subst (λ (l : List Record). Drafting w l f c) (append_assoc rs xs ys) (q.drafting w (rs ++ xs) (p.drafting w rs h));
      size = omega arith;
      beyond = λ n h. q.beyond n h ∙ p.beyond n (omega arith);
    }

drop_over : (buf ys : List ℕ) (at n : ℕ) → at + length ys ≤ n → at + length ys ≤ length buf → drop n (over buf at ys) ≡ drop n buf
drop_over buf ys at n h room =
    ap (λ (l : List ℕ). drop n (take at buf ++ (ys ++ l))) (sym (drop-drop (length ys) at buf)) ∙ drop-put_mid at (length ys) buf ys n h (omega arith) refl

-- one record, by an addition that was granted
pub wrote_one : (d e : Draft) (buf after : List ℕ) (r : Record) → RecordFits r → Ok e ≡ added r d buf → after ≡ added_bytes r d buf → Wrote d buf (r ∷ []) e after
wrote_one d e buf after r fit ok bytes =
    let g = add_granted r d buf e (sym ok) in
    let size = (record_sized r []).0 in
    let long : length (flat_map record_bytes (r ∷ [])) ≡ length_of r = length-append (record_bytes r) [] ∙ omega arith in
    let grown = g.1.0 in
    let room = g.1.2 in
    record {
      drafting = λ w rs p. subst (λ (l : List ℕ). Drafting w (rs ++ (r ∷ [])) e l) (sym bytes) (drafts.Drafting.adds w rs d buf r e p fit (sym ok));
      size = omega arith;
      beyond = λ n h. ap (drop n) (bytes ∙ g.1.3) ∙ drop_over buf (record_bytes r) (size_of d) n (omega arith) (omega arith);
    }

-- The outstanding items of a list, part by part.

pub items_append : (st : Known) (xs ys : List Item) → item_records st (xs ++ ys) ≡ item_records st xs ++ item_records st ys
unfolding item_records
items_append st [] ys = refl
items_append st (x ∷ xs) ys = ways (is_outstanding x.mark) (items_append st xs ys)
  where
    ways : (b : Bool) → item_records st (xs ++ ys) ≡ item_records st xs ++ item_records st ys
        → cond b (actor_records st x.actor ++ item_records st (xs ++ ys)) (item_records st (xs ++ ys)) ≡ cond b (actor_records st x.actor ++ item_records st xs) (item_records st xs) ++ item_records st ys
    ways true ih = ap (λ (l : List Record). actor_records st x.actor ++ l) ih
    ways false ih = ih

pub actors_append : (xs ys : List Item) → outstanding_actors (xs ++ ys) ≡ outstanding_actors xs + outstanding_actors ys
unfolding outstanding_actors
actors_append [] ys = omega arith
actors_append (x ∷ xs) ys = ways (is_outstanding x.mark) (actors_append xs ys)
  where
    ways : (b : Bool) → outstanding_actors (xs ++ ys) ≡ outstanding_actors xs + outstanding_actors ys
        → cond b (suc (outstanding_actors (xs ++ ys))) (outstanding_actors (xs ++ ys)) ≡ cond b (suc (outstanding_actors xs)) (outstanding_actors xs) + outstanding_actors ys
    ways true ih = omega arith
    ways false ih = ih

-- twelve bytes for each outstanding actor
pub items_long : (st : Known) (xs : List Item) → length (flat_map record_bytes (item_records st xs)) ≡ 12 * outstanding_actors xs
unfolding item_records outstanding_actors
items_long st [] = refl
items_long st (x ∷ xs) = ways (is_outstanding x.mark) (items_long st xs)
  where
    ways : (b : Bool) → length (flat_map record_bytes (item_records st xs)) ≡ 12 * outstanding_actors xs
        → length (flat_map record_bytes (cond b (actor_records st x.actor ++ item_records st xs) (item_records st xs))) ≡ 12 * cond b (suc (outstanding_actors xs)) (outstanding_actors xs)
    ways true ih = omega arith
    ways false ih = ih

one_item : (st : Known) (x : Item) → item_records st (x ∷ []) ≡ cond (is_outstanding x.mark) (actor_records st x.actor) []
unfolding item_records
one_item st x = ways (is_outstanding x.mark)
  where
    ways : (b : Bool) → cond b (actor_records st x.actor ++ []) [] ≡ cond b (actor_records st x.actor) []
    ways true = refl
    ways false = refl

pub one_actor : (x : Item) → outstanding_actors (x ∷ []) ≡ cond (is_outstanding x.mark) 1 0
unfolding outstanding_actors
one_actor x = refl

-- what stands in for an item past the end
abbrev pub blank_item : Item
blank_item = record { actor = 0; mark = Settled }

module _ (xs : List Item) (i : ℕ) (d : Item) (h : i < length xs) where
  pub items_more : (st : Known) → item_records st (take (i + 1) xs) ≡ item_records st (take i xs) ++ cond (is_outstanding (get_or xs i d).mark) (actor_records st (get_or xs i d).actor) []
  items_more st = ap (item_records st) (take_more xs i d h) ∙ items_append st (take i xs) (get_or xs i d ∷ []) ∙ ap (λ (l : List Record). item_records st (take i xs) ++ l) (one_item st (get_or xs i d))

  -- what an item takes, beside what those before it take
  pub actors_room : 12 * outstanding_actors (take i xs) + cond (is_outstanding (get_or xs i d).mark) 12 0 ≤ 12 * outstanding_actors xs
  actors_room =
      let split = sym (ap outstanding_actors (take-append-drop (i + 1) xs)) ∙ actors_append (take (i + 1) xs) (drop (i + 1) xs) in
      let front = ap outstanding_actors (take_more xs i d h) ∙ actors_append (take i xs) (get_or xs i d ∷ []) ∙ ap (λ n. outstanding_actors (take i xs) + n) (one_actor (get_or xs i d)) in
      let each = twelve (is_outstanding (get_or xs i d).mark) in
      omega arith
    where
      twelve : (b : Bool) → cond b 12 0 ≡ 12 * cond b 1 0
      twelve true = refl
      twelve false = refl

  pub item_named : all_named xs ≡ true → eqb (get_or xs i d).actor 0 ≡ false
  item_named e = named xs i h e
    where
      named : (ys : List Item) (j : ℕ) → j < length ys → all_named ys ≡ true → eqb (get_or ys j d).actor 0 ≡ false
      named [] j l e = absurd (omega arith)
      named (y ∷ ys) zero l e = not-true _ (and_parts _ _ e).0
      named (y ∷ ys) (suc j) l e = named ys j (omega arith) (and_parts _ _ e).1

pub began : (w : Descriptor) (buf after : List ℕ) (d : Draft) → WordsFit w → Ok d ≡ begun w buf → after ≡ begun_bytes w buf → 16 ≤ length buf → Began w buf d after
began w buf after d fit ok bytes room =
    let version = past (not (eqb (major w.version) 2)) _ _ d (sym ok) in
    let size = past (ltb (length buf) 16) _ _ d version.1 in
    let written = cond-false _ _ _ version.0 ∙ cond-false _ _ _ size.0 in
    record {
      drafting = subst (λ (l : List ℕ). Drafting w [] d l) (sym bytes) (drafts.Drafting.begins w buf d fit (sym ok));
      size = ap size_of (sym (same_answer _ _ size.1));
      beyond = λ n h. ap (drop n) (bytes ∙ written) ∙ drop_over buf (open_bytes w) 0 n h room;
    }

pub finished : (d : Draft) (buf after : List ℕ) (r : Result Closed (Fault × Draft)) (k : Closed) → r ≡ Ok k → r ≡ closed d buf → after ≡ closed_bytes d buf
    → IfOk r (λ n. ReadsBack d buf (take n after)) → size_of d ≤ length buf → Finished d buf after
finished d buf after r k ok answer bytes back room =
    let granted = past (full d 0 buf) _ _ k (sym answer ∙ ok) in
    let size : k ≡ size_of d = sym (same_answer _ _ granted.1) in
    let reads : ReadsBack d buf (take k after) = subst (λ x. IfOk x (λ n. ReadsBack d buf (take n after))) ok back in
    record {
      packet = λ w rs p. (subst (λ (n : ℕ). ReadsBack d buf (take n after)) size reads w rs p).0;
      beyond = λ n h. ap (drop n) (bytes ∙ cond-false _ _ _ granted.0) ∙ drop_over buf (word_bytes (size_of d)) 2 n (omega arith) (omega arith);
    }

pub control_long : (mark : Mark) (word : ℕ) → length (flat_map record_bytes (cond (is_outstanding mark) (Control word ∷ []) [])) ≡ cond (is_outstanding mark) 8 0
control_long mark word = ways (is_outstanding mark)
  where
    ways : (b : Bool) → length (flat_map record_bytes (cond b (Control word ∷ []) [])) ≡ cond b 8 0
    ways true = refl
    ways false = refl

pub packet_long : (w : Descriptor) (st : Known) (m : SwitchModel) → length (packet_bytes w (records_for st m)) ≡ packet_length m
packet_long w st m =
    let all = ap length (joined_append (item_records st m.items) (cond (is_outstanding m.mark) (Control m.control ∷ []) []))
    ∙ length-append (flat_map record_bytes (item_records st m.items)) (flat_map record_bytes (cond (is_outstanding m.mark) (Control m.control ∷ []) [])) in
    let items = items_long st m.items in
    let last = control_long m.mark m.control in
    omega arith

actors_few : (xs : List Item) → outstanding_actors xs ≤ length xs
unfolding outstanding_actors
actors_few [] = omega arith
actors_few (x ∷ xs) = ways (is_outstanding x.mark) (actors_few xs)
  where
    ways : (b : Bool) → outstanding_actors xs ≤ length xs → cond b (suc (outstanding_actors xs)) (outstanding_actors xs) ≤ suc (length xs)
    ways true ih = omega arith
    ways false ih = omega arith

-- what each part of a packet takes is the length of all of it, for items and a mark that are the switch's; and that is at most a payload's
pub packet_sized : (m : SwitchModel) (xs : List Item) (k : Mark) → xs ≡ m.items → k ≡ m.mark → length xs ≤ 64
    → (16 + 12 * outstanding_actors xs + cond (is_outstanding k) 8 0 ≡ packet_length m) × (packet_length m ≤ 1472)
packet_sized m xs k items mark few =
    let same : 16 + 12 * outstanding_actors xs + cond (is_outstanding k) 8 0 ≡ packet_length m = ap₂ (λ (l : List Item) (x : Mark). 16 + 12 * outstanding_actors l + cond (is_outstanding x) 8 0) items mark in
    let actors = actors_few xs in
    let last = at_most (is_outstanding k) in
    (same, omega arith)
  where
    at_most : (b : Bool) → cond b 8 0 ≤ 8
    at_most true = omega arith
    at_most false = omega arith
