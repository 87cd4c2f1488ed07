-- The items of a switch, as marks, store and lines change.
use Rattle.std.proofs.Common.{◌≡◌, ℕ, Bool, true, false, cond, eqb, List, [], ◌∷◌, map, ℤ, Option, sym, refl, ap, ◌∙◌, subst, ⊎_elim}
use Rattle.std.specs.List.{AllByRecursion}
use Rattle.std.proofs.lemmas.Bool.{eq-eqb, eqb-false, eqb-true, or_cases, or_left, or_right, true≢false}
use Rattle.store.specs.declared.actor_store.Half.{Half}
use Rattle.store.specs.Meaning.{Known, after_put}
use Rattle.model.specs.declared.item.Item.{Item}
use Rattle.model.specs.declared.mark.Change.{Change}
use Rattle.model.specs.declared.mark.Change.TheVariants.{Changed}
use Rattle.model.specs.declared.mark.Mark.{Mark}
use Rattle.model.specs.declared.mark.Mark.TheVariants.{Due}
use Rattle.model.specs.Composing.{values_of}
use Rattle.model.specs.Marks.{moved}
use Rattle.model.specs.Models.{lists_actor, moved_item, touched_item}
use Rattle.law.specs.World.{End}
use Rattle.law.proofs.Elements.{all_then, all_mapped}
use Rattle.law.proofs.Held.{put_known, put_other}
use Rattle.law.proofs.Invariant.{ItemFine, MarkFine}

-- a listed actor has an entry; every entry is listed
pub listed_entry : {P : Item → Type 0} (a : ℕ) (items : List Item) → AllByRecursion P items → lists_actor a items ≡ true → (x : Item) × (x.actor ≡ a) × P x
listed_entry a [] p l = absurd (true≢false (sym l))
listed_entry a (x ∷ xs) p l = ⊎_elim (λ e. (x, eqb-true x.actor a e, p.0)) (listed_entry a xs p.1) (or_cases (eqb x.actor a) (lists_actor a xs) l)

all_listed : (P : Item → Type 0) (items : List Item) → AllByRecursion P items → AllByRecursion (λ x. (lists_actor x.actor items ≡ true) × P x) items
all_listed P [] p = tt
all_listed P (x ∷ xs) p = (
  (or_left (eqb x.actor x.actor) _ (eq-eqb x.actor x.actor refl), p.0),
  all_then (λ y q. (or_right (eqb x.actor y.actor) _ q.0, q.1)) xs (all_listed P xs p.1),
)

-- all entries of one actor have the mark of any
pub same_mark : {st : Known} {marks : ℕ → Mark} {e : End} (x : Item) → ItemFine st marks e x → (items : List Item) → AllByRecursion (ItemFine st marks e) items
    → AllByRecursion (λ y. y.actor ≡ x.actor → y.mark ≡ x.mark) items
same_mark {st} {marks} x f items = all_then (λ y g q. g.marked ∙ ap marks q ∙ sym f.marked) items

module _ (st : Known) (marks : ℕ → Mark) (e e' : End) (items : List Item) where
  -- marks as they are
  pub items_stay : ((x : Item) → lists_actor x.actor items ≡ true → ItemFine st marks e x → MarkFine (values_of (st x.actor)) x.actor e' x.mark)
      → AllByRecursion (ItemFine st marks e) items → AllByRecursion (ItemFine st marks e') items
  items_stay g p = all_then (λ x q. record { fits = q.1.fits; known = q.1.known; marked = q.1.marked; fine = g x q.0 q.1 }) items (all_listed (ItemFine st marks e) items p)

  -- every item moved
  pub items_moved : (c : Change) → ((x : Item) → lists_actor x.actor items ≡ true → ItemFine st marks e x → MarkFine (values_of (st x.actor)) x.actor e' (moved x.mark c))
      → AllByRecursion (ItemFine st marks e) items → AllByRecursion (ItemFine st (λ a. moved (marks a) c) e') (map (moved_item c) items)
  items_moved c g p =
      all_mapped (moved_item c) (ItemFine st (λ a. moved (marks a) c) e')
      (λ x q. record { fits = q.1.fits; known = q.1.known; marked = ap (λ (μ : Mark). moved μ c) q.1.marked; fine = g x q.0 q.1 })
      items (all_listed (ItemFine st marks e) items p)

-- a value of actor a put, and that actor made due
module _ (st : Known) (marks : ℕ → Mark) (e : End) (a : ℕ) (half : Half) (v : ℤ) where
  abbrev after : Known
  after = after_put st a half v

  item_touched : (x : Item) → ItemFine st marks e x → ItemFine after (λ b. cond (eqb b a) Due (marks b)) e (touched_item a x)
  item_touched x f = go (eqb x.actor a) refl
    where
      go : (b : Bool) → eqb x.actor a ≡ b → ItemFine after (λ n. cond (eqb n a) Due (marks n)) e (cond b (moved_item Changed x) x)
      go true q =
          record {
            fits = f.fits;
            known = put_known st a half v x.actor ∙ f.known;
            marked = sym (ap (λ (t : Bool). cond t Due (marks x.actor)) q);
            fine = tt;
          }
      go false q =
          record {
            fits = f.fits;
            known = put_known st a half v x.actor ∙ f.known;
            marked = f.marked ∙ sym (ap (λ (t : Bool). cond t Due (marks x.actor)) q);
            fine = subst (λ (o : Option (ℤ × ℤ)). MarkFine (values_of o) x.actor e x.mark) (sym (put_other st a half v x.actor (eqb-false x.actor a q))) f.fine;
          }

  pub items_touched : (items : List Item) → AllByRecursion (ItemFine st marks e) items → AllByRecursion (ItemFine after (λ b. cond (eqb b a) Due (marks b)) e) (map (touched_item a) items)
  items_touched items p = all_mapped (touched_item a) (ItemFine after (λ b. cond (eqb b a) Due (marks b)) e) item_touched items p
