-- What a composed packet says: the store's values of the outstanding actors, and nothing of the settled ones; and its bytes say that.
use Rattle.std.proofs.Common.{◌≡◌, ℕ, ◌+◌, ◌*◌, ◌^◌, ◌<◌, ◌≤◌, Bool, true, false, cond, eqb, List, [], ◌∷◌, ◌++◌, map, length, Some, sym, refl, ap, ◌∙◌, subst, inl, inr, ⊎_elim, arith}
use Rattle.std.specs.List.{flat_map, AllByRecursion}
use Rattle.std.proofs.lemmas.Bool.{eqb-true, ne_eqb, not_from_false, or_cases, true≢false}
use Rattle.packet.specs.declared.message.Message.{Message}
use Rattle.packet.specs.declared.message.Message.TheVariants as message
use Rattle.packet.specs.declared.message.Record.{Record}
use Rattle.packet.specs.declared.message.Record.TheVariants.{Control}
use Rattle.packet.specs.Drafts.{WordsFit, laid_out, length_of, masked}
use Rattle.packet.specs.Packets.{record_bytes}
use Rattle.packet.specs.Words.{major}
use Rattle.packet.proofs.Packets.{Written, packet_reads}
use Rattle.store.specs.declared.actor_store.Half.TheVariants.{Actual, Target}
use Rattle.store.specs.Meaning.{Known}
use Rattle.model.specs.declared.item.Item.{Item}
use Rattle.model.specs.Composing.{actor_records, item_records, packet_for, records_for, values_of, words_for}
use Rattle.model.specs.Marks.{is_outstanding}
use Rattle.model.specs.Models.{HubModel, SwitchModel, lists_actor}
use Rattle.law.specs.Values.{drop_offsets, slot, spoken}
use Rattle.law.proofs.Brought.{Agrees, Full, Silent}
use Rattle.law.proofs.Held.{Lawful, values_fit}
use Rattle.law.proofs.Taken.{bare}

-- the messages of records
abbrev pub told : List Record → List Message
told = map (λ (r : Record). message.Known (masked r))

-- the control word, if it is outstanding, brings no actor
abbrev control_part : Bool → ℕ → List Record
control_part b word = cond b (Control word ∷ []) []

-- What the messages bring.

module _ (st : Known) (a : ℕ) where
  items_agree : (items : List Item) (more : List Record) → Agrees (values_of (st a)) a (told more) → Agrees (values_of (st a)) a (told (item_records st items ++ more))
  unfolding item_records
  items_agree [] more h = h
  items_agree (x ∷ xs) more h = go (is_outstanding x.mark) (items_agree xs more h)
    where
      go : (b : Bool) → Agrees (values_of (st a)) a (told (item_records st xs ++ more))
          → Agrees (values_of (st a)) a (told (cond b (actor_records st x.actor ++ item_records st xs) (item_records st xs) ++ more))
      go true ih = (λ e. ap (λ (n : ℕ). (values_of (st n)).0) e, (λ e. ap (λ (n : ℕ). (values_of (st n)).1) e, ih))
      go false ih = ih

  items_silent : (items : List Item) (more : List Record) → AllByRecursion (λ x. x.actor ≡ a → is_outstanding x.mark ≡ false) items → Silent a (told more)
      → Silent a (told (item_records st items ++ more))
  unfolding item_records
  items_silent [] more d h = h
  items_silent (x ∷ xs) more d h = go (is_outstanding x.mark) refl (items_silent xs more d.1 h)
    where
      go : (b : Bool) → is_outstanding x.mark ≡ b → Silent a (told (item_records st xs ++ more))
          → Silent a (told (cond b (actor_records st x.actor ++ item_records st xs) (item_records st xs) ++ more))
      go true o ih = let apart : (x.actor ≡ a → ⊥) = (λ e. true≢false (sym o ∙ d.0 e)) in (apart, (apart, ih))
      go false o ih = ih

  items_full : (items : List Item) (more : List Record) → AllByRecursion (λ x. x.actor ≡ a → is_outstanding x.mark ≡ true) items → lists_actor a items ≡ true
      → Full a (told (item_records st items ++ more))
  unfolding item_records
  items_full [] more d l = absurd (true≢false (sym l))
  items_full (x ∷ xs) more d l = ⊎_elim (λ e. here (eqb-true x.actor a e)) (λ e. later (is_outstanding x.mark) (items_full xs more d.1 e)) (or_cases (eqb x.actor a) (lists_actor a xs) l)
    where
      both : x.actor ≡ a → Full a (told (actor_records st x.actor ++ item_records st xs ++ more))
      both e Actual = inl (ap (slot Actual) e)
      both e Target = inr (inl (ap (slot Target) e))

      here : x.actor ≡ a → Full a (told (cond (is_outstanding x.mark) (actor_records st x.actor ++ item_records st xs) (item_records st xs) ++ more))
      here e = subst (λ (b : Bool). Full a (told (cond b (actor_records st x.actor ++ item_records st xs) (item_records st xs) ++ more))) (sym (d.0 e)) (both e)

      later : (b : Bool) → Full a (told (item_records st xs ++ more)) → Full a (told (cond b (actor_records st x.actor ++ item_records st xs) (item_records st xs) ++ more))
      later true ih half = inr (inr (ih half))
      later false ih half = ih half

  control_agrees : (b : Bool) (word : ℕ) → Agrees (values_of (st a)) a (told (control_part b word))
  control_agrees true word = (tt, tt)
  control_agrees false word = tt

  control_silent : (b : Bool) (word : ℕ) → Silent a (told (control_part b word))
  control_silent true word = (tt, tt)
  control_silent false word = tt

  pub writes_agree : (m : SwitchModel) → Agrees (values_of (st a)) a (told (records_for st m))
  writes_agree m = items_agree m.items _ (control_agrees (is_outstanding m.mark) m.control)

  pub writes_silent : (m : SwitchModel) → AllByRecursion (λ x. x.actor ≡ a → is_outstanding x.mark ≡ false) m.items → Silent a (told (records_for st m))
  writes_silent m d = items_silent m.items _ d (control_silent (is_outstanding m.mark) m.control)

  pub writes_full : (m : SwitchModel) → AllByRecursion (λ x. x.actor ≡ a → is_outstanding x.mark ≡ true) m.items → lists_actor a m.items ≡ true → Full a (told (records_for st m))
  writes_full m d l = items_full m.items _ d l

-- The bytes.

-- an actor that a message can name
abbrev pub ActorFits : Item → Type 0
ActorFits x = (x.actor ≡ 0 → ⊥) × (x.actor < 2 ^ 16)

items_written : (st : Known) → Lawful st → (items : List Item) (more : List Record) → AllByRecursion ActorFits items → Written more → Written (item_records st items ++ more)
unfolding item_records
items_written st l [] more f w = w
items_written st l (x ∷ xs) more f w = go (is_outstanding x.mark) (items_written st l xs more f.1 w)
  where
    go : (b : Bool) → Written (item_records st xs ++ more) → Written (cond b (actor_records st x.actor ++ item_records st xs) (item_records st xs) ++ more)
    go true ih =
        let v = values_fit (st x.actor) (l x.actor) in
        let admitted = not_from_false (eqb x.actor 0) (ne_eqb x.actor 0 f.0.0) in
        ((f.0.1, v.0), admitted, ((f.0.1, v.1), admitted, ih))
    go false ih = ih

control_written : (b : Bool) (word : ℕ) → Written (control_part b word)
control_written true word = (tt, tt, tt)
control_written false word = tt

items_long : (st : Known) (items : List Item) (more : List Record) → length (flat_map record_bytes (item_records st items ++ more)) ≤ 12 * length items + length (flat_map record_bytes more)
unfolding item_records
items_long st [] more = omega arith
items_long st (x ∷ xs) more = go (is_outstanding x.mark) (items_long st xs more)
  where
    go : (b : Bool) → length (flat_map record_bytes (item_records st xs ++ more)) ≤ 12 * length xs + length (flat_map record_bytes more)
        → length (flat_map record_bytes (cond b (actor_records st x.actor ++ item_records st xs) (item_records st xs) ++ more)) ≤ 12 * length (x ∷ xs) + length (flat_map record_bytes more)
    go true ih = omega arith
    go false ih = omega arith

control_long : (b : Bool) (word : ℕ) → length (flat_map record_bytes (control_part b word)) ≤ 8
control_long true word = omega arith
control_long false word = omega arith

laid_bare : (place : ℕ) (rs : List Record) → bare (laid_out place rs) ≡ told rs
laid_bare place [] = refl
laid_bare place (r ∷ rs) = ap (λ (l : List Message). message.Known (masked r) ∷ l) (laid_bare (place + length_of r) rs)

-- the packet for a switch, read, is its words and the records of what is outstanding
pub packet_says : (h : HubModel) (m : SwitchModel) → WordsFit (words_for h m) → major h.site.version ≡ 2 → Lawful h.store → AllByRecursion ActorFits m.items → length m.items ≤ 64
    → spoken (packet_for h m) ≡ Some (words_for h m, told (records_for h.store m))
packet_says h m fit version l f short =
    let rs : List Record = records_for h.store m in
    let tail : List Record = control_part (is_outstanding m.mark) m.control in
    let long = items_long h.store m.items tail in
    let few = control_long (is_outstanding m.mark) m.control in
    ap drop_offsets (packet_reads (words_for h m) rs fit version (items_written h.store l m.items tail f (control_written (is_outstanding m.mark) m.control)) (omega arith))
    ∙ ap (λ (ms : List Message). Some (words_for h m, ms)) (laid_bare 16 rs)
