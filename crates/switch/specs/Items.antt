-- What is true of every switch: each of its items names an actor, no two the same one, its room for items is blank behind these, and its next package number is not 0.
use Rattle.std.specs.Prelude.{◌≡◌, ℕ, Bool, true, false, not, ◌&&◌, ◌||◌, ◌-◌, ◌≤◌, List, [], ◌∷◌, ◌++◌, map, length, drop, replicate, ◌==◌, nat_le}
use Rattle.store.specs.Lists.{lists}
use Rattle.model.specs.declared.item.Item.{Item}
use Rattle.model.specs.declared.mark.Mark.TheVariants.{Settled}
use Rattle.model.specs.Models.{SwitchModel, lists_actor}
use Rattle.model.specs.Opening.{due_item}

abbrev pub all_named : List Item → Bool
all_named [] = true
all_named (x ∷ xs) = not (x.actor == 0) && all_named xs

abbrev pub actors_of : List Item → List ℕ
actors_of items = map (λ x. x.actor) items

-- an entry stands in the list again behind its first place
abbrev pub repeats : List ℕ → Bool
repeats [] = false
repeats (x ∷ xs) = lists xs x || repeats xs

-- what is true of the items of every switch
pub record LawfulItems (items : List Item) : Type 0 where
  pub named : all_named items ≡ true
  pub distinct : repeats (actors_of items) ≡ false

-- what is true of every switch, by its items and the number of its next packet
pub record LawfulSwitch (items : List Item) (next : ℕ) : Type 0 where
  pub listed : LawfulItems items
  pub numbered : (next == 0) ≡ false

-- what stands where a list holds none yet
abbrev pub no_item : Item
no_item = record { actor = 0; mark = Settled }

-- a list in the room that a switch has for it
abbrev pub filled_up : List Item → List Item
filled_up xs = xs ++ replicate (64 - length xs) no_item

-- what is true of the items of a switch behind the first `count`, which it lists
pub record Room (items : List Item) (count : ℕ) : Type 0 where
  pub long : length items ≡ 64
  pub few : count ≤ 64
  pub blank : drop count items ≡ replicate (64 - count) no_item

-- an actor that a switch with these items has room for and does not list yet
abbrev pub may_list : ℕ → List Item → Bool
may_list a items = not (a == 0 || (nat_le 64 (length items) || lists_actor a items))

-- one actor more, behind the others and due
abbrev pub listing : ℕ → SwitchModel → SwitchModel
listing a m = record { id = m.id; items = m.items ++ due_item a ∷ []; control = m.control; mark = m.mark; numbers = m.numbers; report = m.report }
