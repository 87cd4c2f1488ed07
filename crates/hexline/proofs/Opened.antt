-- The calls that open the house are not refused, and what they leave.
use Rattle.std.proofs.Common.{◌≡◌, [], ◌∷◌, Ok, Err, Result, sym, ap, ◌∙◌, rules}
use Rattle.std.specs.Result.{IsOk}
use Rattle.fault.specs.declared.Fault.{Fault}
use Rattle.packet.proofs.Spelling.{same_answer}
use Rattle.store.specs.declared.table.Table.{Table}
use Rattle.store.specs.Lists.{table_over, zeros}
use Rattle.store.specs.Meaning.{meant}
use Rattle.store.specs.Tables.{actors_in}
use Rattle.model.specs.Models.{HubModel, answer_of, hub_after}
use Rattle.model.specs.Opening.{enrol, new_hub, new_switch, opened}
use Rattle.hub.specs.declared.hub.Hub.{Hub}
use Rattle.hub.specs.Memory.{handed_back, hub_model, seen}
use Rattle.hexline.specs.House.{house, site}

-- the hub before each enrolment
abbrev pub empty : HubModel
empty = new_hub site (zeros (1 ∷ 2 ∷ []))

abbrev pub half : HubModel
half = record { site = site; switches = new_switch 7 (1 ∷ 2 ∷ []) ∷ []; store = zeros (1 ∷ 2 ∷ []) }

table_means : (r : Result Table Fault) (t : Table) → r ≡ Ok t → meant actors_in r ≡ table_over (1 ∷ 2 ∷ []) → actors_in t ≡ zeros (1 ∷ 2 ∷ [])
table_means r t is e = same_answer (actors_in t) (zeros (1 ∷ 2 ∷ [])) (ap (meant actors_in) (sym is) ∙ e)

hub_means : (r : Result (Hub Table) (Fault × Table)) (h : Hub Table) (t : Table) → r ≡ Ok h → seen actors_in r ≡ handed_back t (opened site (actors_in t)) → hub_model actors_in h ≡ new_hub site (actors_in t)
hub_means r h t is e = same_answer (hub_model actors_in h) (new_hub site (actors_in t)) (ap (seen actors_in) (sym is) ∙ e)

pub opens : (a : Result Table Fault) (t : Table) → a ≡ Ok t → meant actors_in a ≡ table_over (1 ∷ 2 ∷ [])
    → (b : Result (Hub Table) (Fault × Table)) (h : Hub Table) → b ≡ Ok h → seen actors_in b ≡ handed_back t (opened site (actors_in t)) → hub_model actors_in h ≡ empty
opens a t is e b h was f = hub_means b h t was f ∙ ap (new_hub site) (table_means a t is e)

done : (r : Result Unit Fault) → r ≡ Ok tt → IsOk r
done (Ok x) e = search rules
done (Err f) e = search rules

pub first_done : (h : HubModel) (r : Result Unit Fault) → h ≡ empty → r ≡ answer_of (enrol h 7 (1 ∷ 2 ∷ [])) → IsOk r
first_done h r e answer = done r (answer ∙ ap (λ k. answer_of (enrol k 7 (1 ∷ 2 ∷ []))) e)

pub first_leaves : (h g : HubModel) → h ≡ empty → g ≡ hub_after h (enrol h 7 (1 ∷ 2 ∷ [])) → g ≡ half
first_leaves h g e after = after ∙ ap (λ k. hub_after k (enrol k 7 (1 ∷ 2 ∷ []))) e

pub second_done : (h : HubModel) (r : Result Unit Fault) → h ≡ half → r ≡ answer_of (enrol h 8 (2 ∷ [])) → IsOk r
second_done h r e answer = done r (answer ∙ ap (λ k. answer_of (enrol k 8 (2 ∷ []))) e)

pub second_leaves : (h g : HubModel) → h ≡ half → g ≡ hub_after h (enrol h 8 (2 ∷ [])) → g ≡ house
second_leaves h g e after = after ∙ ap (λ k. hub_after k (enrol k 8 (2 ∷ []))) e
