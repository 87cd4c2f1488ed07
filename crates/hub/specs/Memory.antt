-- The hub in memory, as its model: its site, its enrolled switches, and what its store means.
use Rattle.std.specs.Prelude.{Ok, Err, Result}
use Rattle.fault.specs.declared.Fault.{Fault}
use Rattle.model.specs.Models.{HubModel}
use Rattle.store.specs.Meaning.{Known}
use Rattle.hub.specs.declared.hub.Hub.{Hub}

abbrev pub hub_model : {S : Type 0} → (S → Known) → Hub S → HubModel
hub_model meaning h = record { site = h.site; switches = h.switches.items; store = meaning h.store }

-- an opening's answer by what it means: a hub's model, or the fault and the store that comes back
abbrev pub seen : {S : Type 0} → (S → Known) → Result (Hub S) (Fault × S) → Result HubModel (Fault × S)
seen meaning (Ok h) = Ok (hub_model meaning h)
seen meaning (Err e) = Err e

abbrev pub handed_back : {S : Type 0} → S → Result HubModel Fault → Result HubModel (Fault × S)
handed_back store (Ok h) = Ok h
handed_back store (Err e) = Err (e, store)

-- what holds once a hub is opened
abbrev pub IfOpened : {S : Type 0} → Type 0 → Result (Hub S) (Fault × S) → Type 0
IfOpened holds (Ok h) = holds
IfOpened holds (Err e) = Unit {0}
