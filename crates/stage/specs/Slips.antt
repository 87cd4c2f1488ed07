-- The slips that a program holds, beside those that its hub has out.
use Rattle.std.specs.Prelude.{◌≡◌, ℕ, suc, Bool, cond, ◌&&◌, List, [], ◌∷◌, Some, None, Option, ◌==◌}
use Rattle.std.specs.Option.{option_map, option_to_list}
use Rattle.model.specs.Models.{HubModel, hub_after}
use Rattle.hub.specs.declared.slip.Fate.{Fate}
use Rattle.hub.specs.Slips.{SlipModel, handed_in, slip_out}
use Rattle.stage.specs.declared.outcome.Answer.{Answer}
use Rattle.stage.specs.declared.outcome.Answer.TheVariants as answer
use Rattle.stage.specs.declared.outcome.Told.TheVariants as told

-- the numbers of the slips for one switch, in order
unfoldable pub numbers_for : ℕ → List SlipModel → List ℕ
numbers_for s [] = []
numbers_for s (x ∷ slips) = cond (x.switch == s) (x.number ∷ numbers_for s slips) (numbers_for s slips)

-- the slips at hand are those that the hub has out, and no other
abbrev pub HoldsAll : HubModel → List SlipModel → Type 0
HoldsAll h slips = (s : ℕ) → numbers_for s slips ≡ option_to_list (slip_out h s)

-- a hub that has out what it had, whichever slips that were
abbrev pub SameOut : HubModel → HubModel → Type 0
SameOut h g = (slips : List SlipModel) → HoldsAll h slips → HoldsAll g slips

abbrev pub is_for : ℕ → ℕ → SlipModel → Bool
is_for switch number x = x.switch == switch && x.number == number

-- where the slip for a packet stands among those at hand, if it is there
unfoldable pub place_for : ℕ → ℕ → List SlipModel → Option ℕ
place_for switch number [] = None
place_for switch number (x ∷ slips) = cond (is_for switch number x) (Some 0) (option_map suc (place_for switch number slips))

-- the slip for a packet is handed in if it is at hand; else nothing changes
abbrev pub handed_for : Fate → HubModel → ℕ → ℕ → Option ℕ → HubModel
handed_for fate h switch number None = h
handed_for fate h switch number (Some i) = hub_after h (handed_in fate h (record { switch = switch; number = number }))

-- what is told of handing it in
abbrev pub handed_told : Option ℕ → Answer
handed_told None = answer.NoSlip
handed_told (Some i) = answer.Granted told.Done
