-- What an accepted payload was, and what its messages did, offsets left aside.
use Rattle.std.proofs.Common.{◌≡◌, ℕ, ◌+◌, Bool, true, false, cond, ◌&&◌, List, [], ◌∷◌, map, Some, None, Ok, Err, Option, Result, sym, refl, ap, ◌∙◌, subst}
use Rattle.std.proofs.lemmas.Bool.{eq-eqb, ne_eqb}
use Rattle.std.proofs.lemmas.Option.{none-some, same_Some}
use Rattle.fault.specs.declared.Fault.{Fault}
use Rattle.packet.proofs.Spelling.{same_answer}
use Rattle.packet.specs.declared.message.Message.{Message}
use Rattle.packet.specs.declared.descriptor.Descriptor.{Descriptor}
use Rattle.packet.specs.Messages.{is_known, understood}
use Rattle.packet.specs.Reading.{behind, messages_from}
use Rattle.packet.specs.Words.{descriptor_of}
use Rattle.model.specs.declared.item.Item.{Item}
use Rattle.model.specs.declared.told.Arrival.{Arrival}
use Rattle.model.specs.declared.told.Arrival.TheVariants as arrival
use Rattle.model.specs.Models.{HubModel, Step, SwitchModel, change_switch, find_switch, is_number}
use Rattle.model.specs.Taking.{answered, event_unless, first_unlisted, heard, heard_message, message_listed, take_answer, take_event, take_from, take_messages, take_ours, take_payload}
use Rattle.law.specs.Values.{drop_offsets, spoken}
use Rattle.law.proofs.Elements.{err≢ok}

-- the messages of a reading, without their offsets
abbrev pub bare : List (ℕ × Message) → List Message
bare = map (λ (m : ℕ × Message). m.1)

-- the messages of an event, in order
unfoldable pub hear_all : ℕ → List Message → HubModel → HubModel
hear_all id [] h = h
hear_all id (m ∷ ms) h = hear_all id ms (heard_message id m h)

unfoldable pub all_listed : List Item → List Message → Bool
all_listed items [] = true
all_listed items (m ∷ ms) = message_listed items m && all_listed items ms

unfoldable pub count_known : List Message → ℕ
count_known [] = 0
count_known (m ∷ ms) = cond (is_known m) 1 0 + count_known ms

heard_bare : (id : ℕ) (places : List (ℕ × Message)) (h : HubModel) → heard id places h ≡ hear_all id (bare places) h
unfolding heard hear_all
heard_bare id [] h = refl
heard_bare id (m ∷ ms) h = heard_bare id ms (heard_message id m.1 h)

understood_bare : (places : List (ℕ × Message)) → understood places ≡ count_known (bare places)
unfolding count_known
understood_bare [] = refl
understood_bare (m ∷ ms) = ap (λ (n : ℕ). cond (is_known m.1) 1 0 + n) (understood_bare ms)

listed_bare : (items : List Item) (places : List (ℕ × Message)) → first_unlisted items places ≡ None → all_listed items (bare places) ≡ true
unfolding first_unlisted all_listed
listed_bare items [] e = refl
listed_bare items (m ∷ ms) e = go (message_listed items m.1) (listed_bare items ms) e
  where
    go : (b : Bool) → (first_unlisted items ms ≡ None → all_listed items (bare ms) ≡ true) → cond b (first_unlisted items ms) (Some m.0) ≡ None
        → (b && all_listed items (bare ms)) ≡ true
    go true ih q = ih q
    go false ih q = absurd (none-some _ (sym q))

-- a payload that says something reads as its descriptor and its messages
spoken_parts : (rd : Result Descriptor Fault) (rm : Result (List (ℕ × Message)) Fault) (d : Descriptor) (ms : List Message) → drop_offsets (behind rd rm) ≡ Some (d, ms)
    → (places : List (ℕ × Message)) × (rd ≡ Ok d) × (rm ≡ Ok places) × (bare places ≡ ms)
spoken_parts (Ok c) (Ok places) d ms e =
    let q = same_Some _ _ e in (places, ap (λ (p : Descriptor × List Message). Ok p.0) q, refl, ap (λ (p : Descriptor × List Message). p.1) q)
spoken_parts (Ok c) (Err f) d ms e = absurd (none-some _ e)
spoken_parts (Err f) rm d ms e = absurd (none-some _ e)

-- one of ours, from a switch that is enrolled
from_parts : (h : HubModel) (b : Bool) (f : Fault) (o : Option SwitchModel) (d : Descriptor) (s : List ℕ) (x : (Arrival × ℕ) × HubModel) → cond b (Err f) (take_from h o d s) ≡ Ok x
    → (m : SwitchModel) × (o ≡ Some m) × (take_messages h m d (messages_from s 16) ≡ Ok x)
from_parts h true f o d s x e = absurd (err≢ok e)
from_parts h false f None d s x e = absurd (err≢ok e)
from_parts h false f (Some m) d s x e = (m, refl, e)

taken_parts : (h : HubModel) (s : List ℕ) (d : Descriptor) (ms : List Message) (x : (Arrival × ℕ) × HubModel) → spoken s ≡ Some (d, ms) → take_payload h s ≡ Ok x
    → (m : SwitchModel) × (places : List (ℕ × Message)) × (find_switch d.switch h.switches ≡ Some m) × (bare places ≡ ms) × (take_messages h m d (Ok places) ≡ Ok x)
taken_parts h s d ms x said e =
    let r = spoken_parts (descriptor_of s) (messages_from s 16) d ms said in
    let t = from_parts h _ _ (find_switch d.switch h.switches) d s x (subst (λ y. take_ours h y s ≡ Ok x) r.1 e) in
    (t.0, r.0, t.1, r.3, subst (λ y. take_messages h t.0 d y ≡ Ok x) r.2 t.2)

event_parts : (o : Option ℕ) (count : ℕ) (g : HubModel) (x : (Arrival × ℕ) × HubModel) → event_unless o count g ≡ Ok x → (o ≡ None) × (((arrival.Event, count), g) ≡ x)
event_parts None count g x e = (refl, same_answer _ _ e)
event_parts (Some place) count g x e = absurd (err≢ok e)

-- an accepted event: its switch is enrolled and lists the actors of its messages, which were heard in order and counted
pub record Heard (h : HubModel) (d : Descriptor) (ms : List Message) (count : ℕ) (g : HubModel) : Type 0 where
  pub switch : SwitchModel
  pub enrolled : find_switch d.switch h.switches ≡ Some switch
  pub listed : all_listed switch.items ms ≡ true
  pub counted : count ≡ count_known ms
  pub after : g ≡ hear_all d.switch ms h

pub event_is : (h : HubModel) (s : List ℕ) (d : Descriptor) (ms : List Message) (told : Arrival) (count : ℕ) (g : HubModel)
    → spoken s ≡ Some (d, ms) → d.number ≡ 0 → take_payload h s ≡ Ok ((told, count), g) → Heard h d ms count g
event_is h s d ms told count g said zero e =
    let t = taken_parts h s d ms _ said e in
    let m = t.0 in
    let places = t.1 in
    let q = t.3 in
    let p = event_parts _ _ _ _ (subst (λ (b : Bool). cond b (take_event h m d.switch places) (take_answer h m d.switch d.number places) ≡ Ok ((told, count), g)) (eq-eqb d.number 0 zero) t.4) in
    record {
      switch = m;
      enrolled = t.2;
      listed = ap (all_listed m.items) (sym q) ∙ listed_bare m.items places p.0;
      counted = ap (λ (x : (Arrival × ℕ) × HubModel). x.0.1) (sym p.1) ∙ understood_bare places ∙ ap count_known q;
      after = ap (λ (x : (Arrival × ℕ) × HubModel). x.1) (sym p.1) ∙ heard_bare d.switch places h ∙ ap (λ (l : List Message). hear_all d.switch l h) q;
    }

-- an accepted answer: the awaited number settles, any other changes nothing
abbrev pub answered_if : ℕ → SwitchModel → HubModel → ℕ → HubModel
answered_if number m h id = cond (is_number m.numbers.awaited number) (change_switch id answered h) h

pub answer_is : (h : HubModel) (s : List ℕ) (d : Descriptor) (ms : List Message) (x : Arrival × ℕ) (g : HubModel)
    → spoken s ≡ Some (d, ms) → (d.number ≡ 0 → ⊥) → take_payload h s ≡ Ok (x, g)
    → (m : SwitchModel) × (find_switch d.switch h.switches ≡ Some m) × (g ≡ answered_if d.number m h d.switch)
answer_is h s d ms x g said n e =
    let t = taken_parts h s d ms _ said e in
    (t.0, t.2, go t.0 t.1 (is_number t.0.numbers.awaited d.number) (subst (λ (b : Bool). cond b (take_event h t.0 d.switch t.1) (take_answer h t.0 d.switch d.number t.1) ≡ Ok (x, g)) (ne_eqb d.number 0 n) t.4))
  where
    go : (m : SwitchModel) (places : List (ℕ × Message)) (b : Bool)
        → ◌≡◌ {A = Step (Arrival × ℕ)} (cond b (Ok ((arrival.Answer, understood places), change_switch d.switch answered h)) (Ok ((arrival.Stale, understood places), h))) (Ok (x, g))
        → g ≡ cond b (change_switch d.switch answered h) h
    go m places true q = ap (λ (y : (Arrival × ℕ) × HubModel). y.1) (sym (same_answer _ _ q))
    go m places false q = ap (λ (y : (Arrival × ℕ) × HubModel). y.1) (sym (same_answer _ _ q))
