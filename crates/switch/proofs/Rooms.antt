-- The room of a switch, as its items change.
use Rattle.std.proofs.Common.{◌≡◌, ℕ, ◌+◌, ◌-◌, ◌<◌, List, [], ◌∷◌, ◌++◌, map, length, take, drop, set, replicate, sym, ap, subst, ◌∙◌, ap₂, arith, length-append, length-drop, length-set, take_at, drop-drop, drop-set-lt}
use Rattle.std.proofs.lemmas.List.{drop-replicate, length-map, take_more_set}
use Rattle.std.proofs.lemmas.Slice.{drop-append-drop}
use Rattle.model.specs.declared.item.Item.{Item}
use Rattle.switch.specs.Items.{LawfulItems, LawfulSwitch, Room, no_item}
use Rattle.switch.specs.Rooms.{length_in_use}
use Rattle.switch.proofs.Lawful.{lawful_map}

-- the list was lent as a slice, and comes back mapped
module _ (f : Item → Item) (items p : List Item) (count : ℕ) (r : Room items count) (e : p ≡ map f (take count items)) where
  long : length p ≡ count
  long = ap length e ∙ length-map (take count items) f ∙ length_in_use items count r

  pub front_mapped : take count (p ++ drop count items) ≡ map f (take count items)
  front_mapped = take_at p (drop count items) count long ∙ e

  room_mapped : Room (p ++ drop count items) count
  room_mapped = record {
    long = length-append p (drop count items) ∙ ap₂ ◌+◌ long (length-drop count items) ∙ omega (arith, r.long, r.few);
    few = r.few;
    blank = drop-append-drop count items p count (omega arith) long ∙ r.blank;
  }

  pub kept_lawful : ((x : Item) → (f x).actor ≡ x.actor) → (next : ℕ) → LawfulSwitch (take count items) next
      → LawfulSwitch (take count (p ++ drop count items)) next × Room (p ++ drop count items) count
  kept_lawful keeps next h = (record { listed = subst LawfulItems (sym front_mapped) (lawful_map f keeps (take count items) h.listed); numbered = h.numbered }, room_mapped)

-- one item more is written behind the list
module _ (items : List Item) (count : ℕ) (x : Item) (r : Room items count) (h : count < 64) where
  pub front_more : take (count + 1) (set items count x) ≡ take count items ++ x ∷ []
  front_more = take_more_set items count x (omega (arith, h, r.long))

  pub room_more : Room (set items count x) (count + 1)
  room_more = record {
    long = length-set items count x ∙ r.long;
    few = omega (arith, h);
    blank =
        drop-set-lt (count + 1) items count x (omega arith)
        ∙ sym (drop-drop 1 count items)
        ∙ ap (drop 1) r.blank
        ∙ drop-replicate 1 (64 - count) no_item
        ∙ ap (λ k. replicate k no_item) (omega (arith, h));
  }
