-- The model's searches are the library's.
use Rattle.std.proofs.Common.{◌≡◌, ℕ, suc, true, false, cond, ◌||◌, List, [], ◌∷◌, Some, length, filter, refl, ap, ◌==◌}
use Rattle.std.specs.List.{find, list_any}
use Rattle.std.specs.Option.{option_map}
use Rattle.std.proofs.lemmas.List.Recursion.{same_from_clauses}
use Rattle.model.specs.declared.item.Item.{Item}
use Rattle.model.specs.declared.mark.Mark.{Mark}
use Rattle.model.specs.Composing.{outstanding_actors}
use Rattle.model.specs.Marks.{is_outstanding}
use Rattle.model.specs.Models.{SwitchModel, any_outstanding, find_switch, is_actor, lists_actor, mark_of_actor}

pub listed : (a : ℕ) (items : List Item) → list_any (is_actor a) items ≡ lists_actor a items
listed a = same_from_clauses (list_any (is_actor a)) (lists_actor a) (λ x b. is_actor a x || b) refl (λ _ _. refl) (λ _ _. refl)

pub any_of : (items : List Item) → list_any (λ x. is_outstanding x.mark) items ≡ any_outstanding items
any_of = same_from_clauses (list_any (λ x. is_outstanding x.mark)) any_outstanding (λ x b. is_outstanding x.mark || b) refl (λ _ _. refl) (λ _ _. refl)

pub counted : (items : List Item) → length (filter (λ x. is_outstanding x.mark) items) ≡ outstanding_actors items
unfolding outstanding_actors
counted [] = refl
counted (x ∷ items) = elim (is_outstanding x.mark) as (λ b. length (cond b (x ∷ filter (λ y. is_outstanding y.mark) items) (filter (λ y. is_outstanding y.mark) items)) ≡ cond b (suc (outstanding_actors items)) (outstanding_actors items)) [
  | true ↦ ap suc (counted items)
  | false ↦ counted items
]

pub marked : (a : ℕ) (items : List Item) → option_map (λ x. x.mark) (find (is_actor a) items) ≡ mark_of_actor a items
marked a [] = refl
marked a (x ∷ items) = elim (is_actor a x) as (λ b. option_map {T = Item} {U = Mark} (λ y. y.mark) (cond b (Some x) (find (is_actor a) items)) ≡ cond b (Some x.mark) (mark_of_actor a items)) [
  | true ↦ refl
  | false ↦ marked a items
]

pub found : (id : ℕ) (ms : List SwitchModel) → find (λ m. m.id == id) ms ≡ find_switch id ms
found id = same_from_clauses (find (λ m. m.id == id)) (find_switch id) (λ m r. cond (m.id == id) (Some m) r) refl (λ _ _. refl) (λ _ _. refl)
