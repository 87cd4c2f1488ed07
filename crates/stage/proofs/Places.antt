-- Looking for a slip.
use Rattle.std.proofs.Common.{◌≡◌, ℕ, suc, Bool, true, false, ◌+◌, cond, not, eqb, ltb, List, [], ◌∷◌, length, get_or, Some, None, sym, refl, ap, ◌∙◌, ap₂, arith}
use Rattle.std.specs.Option.{option_map}
use Rattle.std.specs.List.{position, position_or_len}
use Rattle.std.proofs.lemmas.List.Quantifiers.{position-Some}
use Rattle.std.proofs.lemmas.Bool.{and_parts, cond_below, eqb-true}
use Rattle.std.proofs.lemmas.Bool.Decides.{nat_tests}
use Rattle.hub.specs.Slips.{SlipModel}
use Rattle.stage.specs.Slips.{is_for, place_for}

-- the place of the slip for a packet is where `position` finds it
pub place_found : (switch number : ℕ) (slips : List SlipModel) → place_for switch number slips ≡ position (is_for switch number) slips
unfolding place_for
place_found switch number [] = refl
place_found switch number (x ∷ slips) = go (is_for switch number x) (place_found switch number slips)
  where
    here : ℕ
    here = position_or_len (is_for switch number) slips

    behind : (k : ℕ) (t : Bool) → option_map suc (cond t (Some k) None) ≡ cond t (Some (suc k)) None
    behind k true = refl
    behind k false = refl

    up : (a b : ℕ) → ltb a b ≡ ltb (1 + a) (suc b)
    up a b = grind (arith, nat_tests)

    one : (k : ℕ) → suc k ≡ 1 + k
    one k = omega arith

    go : (b : Bool) → place_for switch number slips ≡ position (is_for switch number) slips
        → cond b (Some 0) (option_map suc (place_for switch number slips))
        ≡ cond (ltb (cond (not b) (1 + here) 0) (suc (length slips))) (Some (cond (not b) (1 + here) 0)) None
    go true ih = cond_below 0 (suc (length slips)) (Some 0) None (omega arith)
    go false ih =
        ap (option_map suc) ih
        ∙ behind here (ltb here (length slips))
        ∙ ap₂ (λ (t : Bool) (k : ℕ). cond t (Some k) None) (up here (length slips)) (one here)

-- the slip at the place that was found is the one that was looked for
pub place_is : (switch number : ℕ) (slips : List SlipModel) (i : ℕ) (d : SlipModel) → place_for switch number slips ≡ Some i → get_or slips i d ≡ record { switch = switch; number = number }
place_is switch number slips i d e =
    let x = get_or slips i d in
    let there = position-Some (is_for switch number) slips i d (sym (place_found switch number slips) ∙ e) in
    let p = and_parts (eqb x.switch switch) (eqb x.number number) there.1 in
    ap₂ (λ (s n : ℕ). record { switch = s; number = n }) (eqb-true x.switch switch p.0) (eqb-true x.number number p.1)
