-- A switch of a row changed at the place at which it was found.
use Rattle.std.proofs.Common.{◌≡◌, ℕ, cond, List, [], ◌∷◌, get_or, set, Some, None, refl, ap, ◌∙◌, ◌==◌}
use Rattle.std.specs.List.{position}
use Rattle.model.specs.Models.{SwitchModel, at_switch}
use Rattle.model.specs.Opening.{new_switch}
use Rattle.switch.proofs.Firsts.{at_first}
use Rattle.switch.proofs.Firsts as firsts

at_first_switch : (id : ℕ) (f : SwitchModel → SwitchModel) (ms : List SwitchModel) → at_first (λ m. m.id == id) f ms ≡ at_switch id f ms
at_first_switch id f [] = refl
at_first_switch id f (m ∷ ms) = ap (λ rest. cond (m.id == id) (f m ∷ ms) (m ∷ rest)) (at_first_switch id f ms)

pub change_here : (id : ℕ) (f : SwitchModel → SwitchModel) (ms : List SwitchModel) (i : ℕ) (y d : SwitchModel) → Some i ≡ position (λ m. m.id == id) ms → y ≡ f (get_or ms i d) → set ms i y ≡ at_switch id f ms
change_here id f ms i y d e v = firsts.change_here (λ m. m.id == id) f ms i y d e v ∙ at_first_switch id f ms

pub change_nowhere : (id : ℕ) (f : SwitchModel → SwitchModel) (ms : List SwitchModel) → None ≡ position (λ m. m.id == id) ms → ms ≡ at_switch id f ms
change_nowhere id f ms e = firsts.change_nowhere (λ m. m.id == id) f (new_switch 0 []) ms e ∙ at_first_switch id f ms
