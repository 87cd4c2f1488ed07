-- What a quiet event leaves of a switch: its items, its control word's mark and the number that it awaits.
use Rattle.std.proofs.Common.{◌≡◌, ℕ, Bool, true, false, cond, eqb, List, [], ◌∷◌, map, ℤ, Some, None, Option, sym, refl, ap, ◌∙◌, subst, ap₂, inl, inr, ⊎_elim}
use Rattle.std.specs.Option.{option_map}
use Rattle.std.proofs.lemmas.Bool.{cases_eq, not_from_false, or_left, or_right}
use Rattle.kind.specs.Kinds.{asks_init}
use Rattle.packet.specs.declared.message.Message.{Message}
use Rattle.packet.specs.declared.message.Message.TheVariants as message
use Rattle.packet.specs.declared.message.Record.{Record}
use Rattle.packet.specs.declared.message.Record.TheVariants.{State, Control, EditValue, RealValue, Event, Temperature}
use Rattle.store.specs.declared.actor_store.Half.TheVariants.{Target}
use Rattle.store.specs.Meaning.{forbidden, refusal}
use Rattle.model.specs.declared.item.Item.{Item}
use Rattle.model.specs.declared.mark.Change.TheVariants.{Changed}
use Rattle.model.specs.Models.{HubModel, SwitchModel, all_moved, at_switch, find_switch, hub_after, lists_actor, moved_item, touched, touched_item}
use Rattle.model.specs.Settings.{granted, with_value}
use Rattle.model.specs.Taking.{heard_message, heard_record, with_flags, with_state}
use Rattle.law.specs.Values.{Any, Edits, EditsRecord, Inits, InitsRecord}
use Rattle.law.proofs.Switches.{KeepsId, find_at_other, find_at_same, find_map}
use Rattle.law.proofs.Taken.{hear_all}

-- a switch that a step leaves alone, but for what it last reported
pub record Kept (m n : SwitchModel) : Type 0 where
  pub items : n.items ≡ m.items
  pub mark : n.mark ≡ m.mark
  pub awaited : n.numbers.awaited ≡ m.numbers.awaited

pub kept_same : (m : SwitchModel) → Kept m m
kept_same m = record { items = refl; mark = refl; awaited = refl }

kept_then : (m n o : SwitchModel) → Kept m n → Kept n o → Kept m o
kept_then m n o p q = record { items = q.items ∙ p.items; mark = q.mark ∙ p.mark; awaited = q.awaited ∙ p.awaited }

-- an actor that is not listed
untouched : (a : ℕ) (items : List Item) → (lists_actor a items ≡ true → ⊥) → map (touched_item a) items ≡ items
untouched a [] d = refl
untouched a (x ∷ xs) d = ap₂ (λ (y : Item) (ys : List Item). y ∷ ys) (here (eqb x.actor a) refl) (untouched a xs (λ l. d (or_right (eqb x.actor a) _ l)))
  where
    here : (b : Bool) → eqb x.actor a ≡ b → cond b (moved_item Changed x) x ≡ x
    here true e = absurd (d (or_left (eqb x.actor a) _ e))
    here false e = refl

pub kept_untouched : (m : SwitchModel) (a : ℕ) → (lists_actor a m.items ≡ true → ⊥) → Kept m (touched a m)
kept_untouched m a d = record { items = untouched a m.items d; mark = refl; awaited = refl }

-- switch s is found, and kept
abbrev pub KeptAt : ℕ → SwitchModel → List SwitchModel → Type 0
KeptAt s m ms = (n : SwitchModel) × (find_switch s ms ≡ Some n) × Kept m n

step_at : (s t : ℕ) (f : SwitchModel → SwitchModel) → KeepsId f → ((m : SwitchModel) → t ≡ s → Kept m (f m)) → (ms : List SwitchModel) (m : SwitchModel) → find_switch s ms ≡ Some m
    → KeptAt s m (at_switch t f ms)
step_at s t f k g ms m q =
    ⊎_elim (λ e. (f m, subst (λ (x : ℕ). find_switch s (at_switch x f ms) ≡ Some (f m)) (sym e) (find_at_same s f k ms ∙ ap (option_map f) q), g m e))
    (λ d. (m, find_at_other t s f k d ms ∙ q, kept_same m)) (cases_eq t s)

edit_quiet : (s a : ℕ) (v : ℤ) (h : HubModel) (m : SwitchModel) (o : Option (ℤ × ℤ)) (b : Bool) → find_switch s h.switches ≡ Some m → forbidden v ≡ b
    → (lists_actor a m.items ≡ true → EditsRecord a (EditValue a v) → ⊥) → KeptAt s m (hub_after h (granted (refusal o b) (with_value a Target v h))).switches
edit_quiet s a v h m None b q f d = (m, q, kept_same m)
edit_quiet s a v h m (Some p) true q f d = (m, q, kept_same m)
edit_quiet s a v h m (Some p) false q f d =
    (touched a m, find_map (touched a) (λ n. refl) s h.switches ∙ ap (option_map (touched a)) q, kept_untouched m a (λ l. d l (refl, not_from_false (forbidden v) f)))

state_keeps_id : (flags : ℕ) → KeepsId (with_state flags)
state_keeps_id flags m = go (asks_init flags)
  where
    go : (b : Bool) → (cond b (all_moved Changed (with_flags flags m)) (with_flags flags m)).id ≡ m.id
    go true = refl
    go false = refl

state_quiet : (flags : ℕ) (m : SwitchModel) → (asks_init flags ≡ true → ⊥) → Kept m (with_state flags m)
state_quiet flags m d = go (asks_init flags) d
  where
    go : (b : Bool) → (b ≡ true → ⊥) → Kept m (cond b (all_moved Changed (with_flags flags m)) (with_flags flags m))
    go true d = absurd (d refl)
    go false d = record { items = refl; mark = refl; awaited = refl }

record_quiet : (s t : ℕ) (x : Record) (h : HubModel) (m : SwitchModel) → find_switch s h.switches ≡ Some m
    → ((a : ℕ) → lists_actor a m.items ≡ true → EditsRecord a x → ⊥) → (t ≡ s → InitsRecord x → ⊥) → KeptAt s m (heard_record t x h).switches
record_quiet s t (State flags) h m q e i = step_at s t (with_state flags) (state_keeps_id flags) (λ n z. state_quiet flags n (i z)) h.switches m q
record_quiet s t (Control word) h m q e i = (m, q, kept_same m)
record_quiet s t (EditValue a v) h m q e i = edit_quiet s a v h m (h.store a) (forbidden v) q refl (e a)
record_quiet s t (RealValue a v) h m q e i = (m, q, kept_same m)
record_quiet s t (Event a key) h m q e i = step_at s t _ (λ n. refl) (λ n z. record { items = refl; mark = refl; awaited = refl }) h.switches m q
record_quiet s t (Temperature x) h m q e i = step_at s t _ (λ n. refl) (λ n z. record { items = refl; mark = refl; awaited = refl }) h.switches m q

message_quiet : (s t : ℕ) (x : Message) (h : HubModel) (m : SwitchModel) → find_switch s h.switches ≡ Some m
    → ((a : ℕ) → lists_actor a m.items ≡ true → Edits a x → ⊥) → (t ≡ s → Inits x → ⊥) → KeptAt s m (heard_message t x h).switches
message_quiet s t (message.Known r) h m q e i = record_quiet s t r h m q e i
message_quiet s t (message.Unknown ident) h m q e i = (m, q, kept_same m)

pub hear_quiet : (s t : ℕ) (ms : List Message) (h : HubModel) (m : SwitchModel) → find_switch s h.switches ≡ Some m
    → ((a : ℕ) → lists_actor a m.items ≡ true → Any (Edits a) ms → ⊥) → (t ≡ s → Any Inits ms → ⊥) → KeptAt s m (hear_all t ms h).switches
unfolding hear_all
hear_quiet s t [] h m q e i = (m, q, kept_same m)
hear_quiet s t (x ∷ xs) h m q e i =
    let p = message_quiet s t x h m q (λ a l z. e a l (inl z)) (λ z y. i z (inl y)) in
    let r = hear_quiet s t xs (heard_message t x h) p.0 p.1 (λ a l z. e a (ap (lists_actor a) (sym p.2.items) ∙ l) (inr z)) (λ z y. i z (inr y)) in
    (r.0, r.1, kept_then m p.0 r.0 p.2 r.2)
