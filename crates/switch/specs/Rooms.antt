-- That what a switch lists tells all the room that it has for items.
use Rattle.std.proofs.Common.{◌≡◌, ℕ, ◌-◌, ◌≤◌, List, ◌++◌, length, take, replicate, sym, ap, subst, ◌∙◌, length-take-le, take-append-drop}
use Rattle.model.specs.declared.item.Item.{Item}
use Rattle.switch.specs.Items.{Room, filled_up, no_item}

pub length_in_use : (items : List Item) (count : ℕ) → Room items count → length (take count items) ≡ count
length_in_use items count r = length-take-le count items (subst (λ n. count ≤ n) (sym r.long) r.few)

pub whole : (items : List Item) (count : ℕ) → Room items count → filled_up (take count items) ≡ items
whole items count r =
    ap (λ k. take count items ++ replicate (64 - k) no_item) (length_in_use items count r)
    ∙ ap (λ (l : List Item). take count items ++ l) (sym r.blank)
    ∙ take-append-drop count items
