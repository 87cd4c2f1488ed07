-- What is written of a text while its lines are heard, and one line more.
use Rattle.std.proofs.Common.{◌≡◌, ℕ, List, [], ◌∷◌, ◌++◌, Option, Some, None, Result, refl, sym, ap, ◌∙◌, ap₂}
use Rattle.std.proofs.lemmas.List.{append_assoc, append-nil}
use Rattle.std.specs.Bool.{⊤}
use Rattle.std.specs.Io.KnownBytes.{Appends}
use Rattle.fault.specs.declared.Fault.{Fault}
use Rattle.model.specs.declared.told.Arrival.{Arrival}
use Rattle.model.specs.Models.{HubModel, answer_of, hub_after}
use Rattle.hexline.specs.Lines.{after_lines, hear, heard_lines, heard_text}
use Rattle.hexline.specs.Refusals.{as_line}

-- with the rest, what is written since the start is all
abbrev pub Writing : Option (List ℕ) → Option (List ℕ) → List ℕ → List ℕ → Type 0
Writing None now rest all = ⊤
Writing (Some xs) None rest all = ⊥
Writing (Some xs) (Some ys) rest all = ys ++ rest ≡ xs ++ all

pub starts : (a : Option (List ℕ)) (all : List ℕ) → Writing a a all all
starts None all = tt
starts (Some xs) all = refl

wrote : (a b c : Option (List ℕ)) (more rest both all : List ℕ) → Writing a b both all → Appends b c more → both ≡ more ++ rest → Writing a c rest all
wrote None b c more rest both all w p e = tt
wrote (Some xs) None c more rest both all w p e = absurd w
wrote (Some xs) (Some ys) None more rest both all w p e = absurd p
wrote (Some xs) (Some ys) (Some zs) more rest both all w p e =
    ap (λ (l : List ℕ). l ++ rest) p ∙ append_assoc ys more rest ∙ ap (λ (l : List ℕ). ys ++ l) (sym e) ∙ w

written : (a b : Option (List ℕ)) (rest all : List ℕ) → Writing a b rest all → rest ≡ [] → Appends a b all
written None b rest all w e = tt
written (Some xs) None rest all w e = absurd w
written (Some xs) (Some ys) rest all w e = sym (append-nil ys) ∙ ap (λ (l : List ℕ). ys ++ l) (sym e) ∙ w

line_more : (h g : HubModel) (line : List ℕ) (s t : List (List ℕ)) (r : Result (Arrival × ℕ) Fault)
    → s ≡ line ∷ t → r ≡ answer_of (hear h line) → g ≡ hub_after h (hear h line) → heard_lines h s ≡ as_line (heard_text r) ++ heard_lines g t
line_more h g line s t r e answer left =
    ap (heard_lines h) e
    ∙ ap₂ (λ (a : Result (Arrival × ℕ) Fault) (k : HubModel). as_line (heard_text a) ++ heard_lines k t) (sym answer) (sym left)

pub told_more : (h g : HubModel) (line : List ℕ) (s t : List (List ℕ)) (a b c : Option (List ℕ)) (all : List ℕ) (r : Result (Arrival × ℕ) Fault)
    → s ≡ line ∷ t → r ≡ answer_of (hear h line) → g ≡ hub_after h (hear h line) → Appends b c (as_line (heard_text r))
    → Writing a b (heard_lines h s) all → Writing a c (heard_lines g t) all
told_more h g line s t a b c all r e answer left p w =
    wrote a b c (as_line (heard_text r)) (heard_lines g t) (heard_lines h s) all w p (line_more h g line s t r e answer left)

pub left_more : (h g : HubModel) (line : List ℕ) (s t : List (List ℕ)) → s ≡ line ∷ t → g ≡ hub_after h (hear h line) → after_lines g t ≡ after_lines h s
left_more h g line s t e left = ap (λ (k : HubModel). after_lines k t) left ∙ ap (after_lines h) (sym e)

-- no line is left
pub told_all : (h : HubModel) (s : List (List ℕ)) (a b : Option (List ℕ)) (all : List ℕ) → s ≡ [] → Writing a b (heard_lines h s) all → Appends a b all
told_all h s a b all e w = written a b (heard_lines h s) all w (ap (heard_lines h) e)

pub left_all : (h : HubModel) (s : List (List ℕ)) → s ≡ [] → h ≡ after_lines h s
left_all h s e = ap (after_lines h) (sym e)
