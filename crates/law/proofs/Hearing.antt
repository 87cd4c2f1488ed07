-- What the messages of an accepted event do to the switches, the store and the accepted values.
use Rattle.std.proofs.Common.{◌≡◌, ℕ, Bool, true, false, cond, not, eqb, ◌⊎◌, List, [], ◌∷◌, map, ℤ, is_some, Some, None, Ok, Err, Option, Result, sym, refl, ap, ◌∙◌, subst, ap₂, inl, inr, ⊎_elim}
use Rattle.std.specs.Option.{option_map}
use Rattle.std.specs.List.{AllByRecursion}
use Rattle.std.proofs.lemmas.Bool.{and_parts, cond_both, eq-eqb, true≢false}
use Rattle.fault.specs.declared.Fault.{Fault}
use Rattle.kind.specs.Kinds.{asks_init}
use Rattle.packet.specs.declared.message.Message.{Message}
use Rattle.packet.specs.declared.message.Message.TheVariants as message
use Rattle.packet.specs.declared.message.Record.{Record}
use Rattle.packet.specs.declared.message.Record.TheVariants.{State, Control, EditValue, RealValue, Event, Temperature}
use Rattle.store.specs.declared.actor_store.Half.TheVariants.{Target}
use Rattle.store.specs.Meaning.{Known, forbidden, put_answer, refusal}
use Rattle.model.specs.declared.item.Item.{Item}
use Rattle.model.specs.declared.mark.Change.TheVariants.{Changed}
use Rattle.model.specs.declared.mark.Mark.TheVariants.{Due}
use Rattle.model.specs.declared.told.Report.{Report}
use Rattle.model.specs.Models.{HubModel, SwitchModel, all_moved, change_switch, find_switch, hub_after, lists_actor, moved_item, touched, touched_item, with_report}
use Rattle.model.specs.Settings.{granted, with_value}
use Rattle.model.specs.Taking.{heard_message, heard_record, message_listed, record_listed, with_flags}
use Rattle.law.specs.Values.{Any, Edits, EditsRecord, Inits, InitsRecord, Slot, note_all, note_message, slot}
use Rattle.law.proofs.Elements.{all_mapped}
use Rattle.law.proofs.Held.{Recalls, put_known, put_recalls}
use Rattle.law.proofs.Switches.{find_at_same, find_map, found_after}
use Rattle.law.proofs.Taken.{all_listed, hear_all}

-- What holds of a hub is kept by the messages of an event if each thing that a message can do keeps it: a target set, a new report of a switch,
-- a report with every item made due.
module _ (Q : HubModel → Type 0)
    (sets : (h : HubModel) (a : ℕ) (v : ℤ) → put_answer h.store a v ≡ Ok tt → Q h → Q (with_value a Target v h))
    (reports : (h : HubModel) (s : ℕ) (r : SwitchModel → Report) → Q h → Q (change_switch s (λ m. with_report (r m) m) h))
    (inits : (h : HubModel) (s : ℕ) (r : SwitchModel → Report) → Q h → Q (change_switch s (λ m. all_moved Changed (with_report (r m) m)) h)) where
  edit_keeps : (h : HubModel) (a : ℕ) (v : ℤ) (r : Result Unit Fault) → put_answer h.store a v ≡ r → Q h → Q (hub_after h (granted r (with_value a Target v h)))
  edit_keeps h a v (Ok x) e q = sets h a v e q
  edit_keeps h a v (Err f) e q = q

  state_keeps : (h : HubModel) (s flags : ℕ) (b : Bool) → Q h → Q (change_switch s (λ m. cond b (all_moved Changed (with_flags flags m)) (with_flags flags m)) h)
  state_keeps h s flags true q = inits h s _ q
  state_keeps h s flags false q = reports h s _ q

  record_keeps : (s : ℕ) (r : Record) (h : HubModel) → Q h → Q (heard_record s r h)
  record_keeps s (State flags) h q = state_keeps h s flags (asks_init flags) q
  record_keeps s (Control word) h q = q
  record_keeps s (EditValue a v) h q = edit_keeps h a v (put_answer h.store a v) refl q
  record_keeps s (RealValue a v) h q = q
  record_keeps s (Event a key) h q = reports h s _ q
  record_keeps s (Temperature t) h q = reports h s _ q

  message_keeps : (s : ℕ) (m : Message) (h : HubModel) → Q h → Q (heard_message s m h)
  message_keeps s (message.Known r) h q = record_keeps s r h q
  message_keeps s (message.Unknown ident) h q = q

  pub hear_keeps : (s : ℕ) (ms : List Message) (h : HubModel) → Q h → Q (hear_all s ms h)
  unfolding hear_all
  hear_keeps s [] h q = q
  hear_keeps s (m ∷ ms) h q = hear_keeps s ms (heard_message s m h) (message_keeps s m h q)

-- the known actors stay
abbrev pub Knows : Known → HubModel → Type 0
Knows st h = (a : ℕ) → is_some (h.store a) ≡ is_some (st a)

knows_set : (st : Known) (h : HubModel) (a : ℕ) (v : ℤ) → put_answer h.store a v ≡ Ok tt → Knows st h → Knows st (with_value a Target v h)
knows_set st h a v e k b = put_known h.store a Target v b ∙ k b

pub hear_known : (s : ℕ) (ms : List Message) (h : HubModel) → Knows h.store (hear_all s ms h)
hear_known s ms h = hear_keeps (Knows h.store) (knows_set h.store) (λ g t r k. k) (λ g t r k. k) s ms h (λ a. refl)

message_known : (s : ℕ) (m : Message) (h : HubModel) → Knows h.store (heard_message s m h)
message_known s m h = message_keeps (Knows h.store) (knows_set h.store) (λ g t r k. k) (λ g t r k. k) s m h (λ a. refl)

-- The store holds what was accepted: the EditValues of listed actors are set, unless they are forbidden.
module _ (opened : Known) (items : List Item) where
  edit_recalls : (past : List (Slot × ℤ)) (h : HubModel) (a : ℕ) (v : ℤ) (o : Option (ℤ × ℤ)) (b : Bool) → h.store a ≡ o → forbidden v ≡ b → is_some o ≡ true
      → Recalls opened past h.store
      → Recalls opened (cond (not b) ((slot Target a, v) ∷ past) past) (hub_after h (granted (refusal o b) (with_value a Target v h))).store
  edit_recalls past h a v None b e f k r = absurd (true≢false (sym k))
  edit_recalls past h a v (Some p) true e f k r = r
  edit_recalls past h a v (Some p) false e f k r = put_recalls opened past h.store a Target v (ap₂ refusal e f) r

  record_recalls : (past : List (Slot × ℤ)) (s : ℕ) (x : Record) (h : HubModel) → ((a : ℕ) → lists_actor a items ≡ true → is_some (h.store a) ≡ true)
      → record_listed items x ≡ true → Recalls opened past h.store → Recalls opened (note_message (message.Known x) past) (heard_record s x h).store
  record_recalls past s (State flags) h kn l r = r
  record_recalls past s (Control word) h kn l r = r
  record_recalls past s (EditValue a v) h kn l r = edit_recalls past h a v (h.store a) (forbidden v) refl refl (kn a l) r
  record_recalls past s (RealValue a v) h kn l r = r
  record_recalls past s (Event a key) h kn l r = r
  record_recalls past s (Temperature t) h kn l r = r

  message_recalls : (past : List (Slot × ℤ)) (s : ℕ) (m : Message) (h : HubModel) → ((a : ℕ) → lists_actor a items ≡ true → is_some (h.store a) ≡ true)
      → message_listed items m ≡ true → Recalls opened past h.store → Recalls opened (note_message m past) (heard_message s m h).store
  message_recalls past s (message.Known x) h kn l r = record_recalls past s x h kn l r
  message_recalls past s (message.Unknown ident) h kn l r = r

  pub hear_recalls : (past : List (Slot × ℤ)) (s : ℕ) (ms : List Message) (h : HubModel) → ((a : ℕ) → lists_actor a items ≡ true → is_some (h.store a) ≡ true)
      → all_listed items ms ≡ true → Recalls opened past h.store → Recalls opened (note_all ms past) (hear_all s ms h).store
  unfolding hear_all all_listed note_all
  hear_recalls past s [] h kn l r = r
  hear_recalls past s (m ∷ ms) h kn l r =
      let p = and_parts (message_listed items m) (all_listed items ms) l in
      hear_recalls (note_message m past) s ms (heard_message s m h) (λ a e. message_known s m h a ∙ kn a e) p.1 (message_recalls past s m h kn p.0 r)

-- A message that makes actor a due at its switch.

abbrev pub Hits : ℕ → Message → Type 0
Hits a m = Edits a m ⊎ Inits m

-- actor a is due wherever the switch lists it
abbrev pub DueAt : ℕ → Option SwitchModel → Type 0
DueAt a None = Unit {0}
DueAt a (Some m) = AllByRecursion (λ x. x.actor ≡ a → x.mark ≡ Due) m.items

due_touched : (a b : ℕ) (o : Option SwitchModel) → DueAt a o → DueAt a (option_map (touched b) o)
due_touched a b None d = tt
due_touched a b (Some m) d =
    all_mapped (touched_item b) _ (λ x p. cond_both (eqb x.actor b) (moved_item Changed x) x (λ y. y.actor ≡ a → y.mark ≡ Due) (λ _ e. refl) (λ _. p)) m.items d

touched_due : (a : ℕ) (o : Option SwitchModel) → DueAt a (option_map (touched a) o)
touched_due a None = tt
touched_due a (Some m) = go m.items
  where
    go : (xs : List Item) → AllByRecursion (λ x. x.actor ≡ a → x.mark ≡ Due) (map (touched_item a) xs)
    go [] = tt
    go (x ∷ xs) = (
      cond_both (eqb x.actor a) (moved_item Changed x) x (λ y. y.actor ≡ a → y.mark ≡ Due) (λ _ e. refl) (λ q e. absurd (true≢false (sym (eq-eqb x.actor a e) ∙ q))),
      go xs,
    )

all_due : (a : ℕ) (xs : List Item) → AllByRecursion (λ x. x.actor ≡ a → x.mark ≡ Due) (map (moved_item Changed) xs)
all_due a [] = tt
all_due a (x ∷ xs) = (λ e. refl, all_due a xs)

abbrev DueHere : ℕ → ℕ → HubModel → Type 0
DueHere s a h = DueAt a (find_switch s h.switches)

due_reported : (a : ℕ) (r : SwitchModel → Report) (o : Option SwitchModel) → DueAt a o → DueAt a (option_map (λ m. with_report (r m) m) o)
due_reported a r None d = tt
due_reported a r (Some m) d = d

due_inited : (a : ℕ) (r : SwitchModel → Report) (o : Option SwitchModel) → DueAt a (option_map (λ m. all_moved Changed (with_report (r m) m)) o)
due_inited a r None = tt
due_inited a r (Some m) = all_due a m.items

-- once due, it stays so
hear_due : (s a : ℕ) (ms : List Message) (h : HubModel) → DueHere s a h → DueHere s a (hear_all s ms h)
hear_due s a ms h d =
    hear_keeps (DueHere s a)
    (λ g b v e q. subst (DueAt a) (sym (find_map (touched b) (λ m. refl) s g.switches)) (due_touched a b (find_switch s g.switches) q))
    (λ g t r q. found_after (DueAt a) t s (λ m. with_report (r m) m) (λ m. refl) g.switches (due_reported a r) q)
    (λ g t r q. found_after (DueAt a) t s (λ m. all_moved Changed (with_report (r m) m)) (λ m. refl) g.switches (λ o _. due_inited a r o) q)
    s ms h d

edit_hits : (s a b : ℕ) (v : ℤ) (h : HubModel) (o : Option (ℤ × ℤ)) (bad : Bool) → is_some o ≡ true → b ≡ a → not bad ≡ true
    → DueHere s a (hub_after h (granted (refusal o bad) (with_value b Target v h)))
edit_hits s a b v h None bad k e l = absurd (true≢false (sym k))
edit_hits s a b v h (Some p) true k e l = absurd (true≢false (sym l))
edit_hits s a b v h (Some p) false k e l =
    subst (DueAt a) (sym (find_map (touched b) (λ m. refl) s h.switches)) (subst (λ (n : ℕ). DueAt a (option_map (touched n) (find_switch s h.switches))) (sym e) (touched_due a (find_switch s h.switches)))

state_hits : (s a flags : ℕ) (h : HubModel) (b : Bool) → b ≡ true → DueHere s a (change_switch s (λ m. cond b (all_moved Changed (with_flags flags m)) (with_flags flags m)) h)
state_hits s a flags h true e = subst (DueAt a) (sym (find_at_same s (λ m. all_moved Changed (with_flags flags m)) (λ m. refl) h.switches)) (due_inited a _ (find_switch s h.switches))
state_hits s a flags h false e = absurd (true≢false (sym e))

neither : ⊥ ⊎ ⊥ → ⊥
neither p = ⊎_elim (λ q. q) (λ q. q) p

record_hits : (s a : ℕ) (x : Record) (h : HubModel) → is_some (h.store a) ≡ true → EditsRecord a x ⊎ InitsRecord x → DueHere s a (heard_record s x h)
record_hits s a (State flags) h k (inl p) = absurd p
record_hits s a (State flags) h k (inr p) = state_hits s a flags h (asks_init flags) p
record_hits s a (Control word) h k p = absurd (neither p)
record_hits s a (EditValue b v) h k (inl p) = edit_hits s a b v h (h.store b) (forbidden v) (ap (λ (n : ℕ). is_some (h.store n)) p.0 ∙ k) p.0 p.1
record_hits s a (EditValue b v) h k (inr p) = absurd p
record_hits s a (RealValue b v) h k p = absurd (neither p)
record_hits s a (Event b key) h k p = absurd (neither p)
record_hits s a (Temperature t) h k p = absurd (neither p)

message_hits : (s a : ℕ) (m : Message) (h : HubModel) → is_some (h.store a) ≡ true → Hits a m → DueHere s a (heard_message s m h)
message_hits s a (message.Known x) h k p = record_hits s a x h k p
message_hits s a (message.Unknown ident) h k p = absurd (neither p)

pub hear_hits : (s a : ℕ) (ms : List Message) (h : HubModel) → is_some (h.store a) ≡ true → Any (Hits a) ms → DueAt a (find_switch s (hear_all s ms h).switches)
unfolding hear_all
hear_hits s a [] h k p = absurd p
hear_hits s a (m ∷ ms) h k (inl p) = hear_due s a ms (heard_message s m h) (message_hits s a m h k p)
hear_hits s a (m ∷ ms) h k (inr p) = hear_hits s a ms (heard_message s m h) (message_known s m h a ∙ k) p
