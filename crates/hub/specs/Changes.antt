-- A change of a switch, as the calls that make it show it.
use Rattle.std.specs.Prelude.{◌≡◌}
use Rattle.model.specs.Models.{SwitchModel}

-- every call that R shows takes a switch m to f m
abbrev pub Makes : (SwitchModel → SwitchModel) → (SwitchModel → Unit {0} → SwitchModel → Type 0) → Type 0
Makes f R = (m n : SwitchModel) → R m tt n → n ≡ f m
