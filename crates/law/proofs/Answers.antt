-- A payload that take accepts: what holds of its switch is kept, and the awaited answer settles what is under way.
use Rattle.std.proofs.Common.{◌≡◌, ℕ, suc, Bool, true, false, cond, List, [], ◌∷◌, ℤ, is_some, Some, None, Option, sym, refl, ap, ◌∙◌, subst, inl, inr, ⊎_elim, arith}
use Rattle.std.specs.List.{AllByRecursion}
use Rattle.store.specs.Meaning.{Known}
use Rattle.model.specs.declared.item.Item.{Item}
use Rattle.model.specs.declared.mark.Change.TheVariants.{Answered}
use Rattle.model.specs.declared.mark.Mark.{Mark}
use Rattle.model.specs.declared.mark.Mark.TheVariants.{Settled, Due, UnderWay}
use Rattle.model.specs.Marks.{moved}
use Rattle.model.specs.Models.{SwitchModel, is_number, lists_actor}
use Rattle.model.specs.Taking.{answered}
use Rattle.law.specs.Values.{Any, Inits, spoken}
use Rattle.law.specs.World as world
use Rattle.law.specs.World.{About, Act, End, InTime, Packet, Payload, accepts, messages_in}
use Rattle.law.specs.Law.{Tells}
use Rattle.law.proofs.Changes.{still_short}
use Rattle.law.proofs.Elements.{any_map, some_number, that_number}
use Rattle.law.proofs.Flights.{between_le, delivered_below, nothing_ahead, same_packet}
use Rattle.law.proofs.Hearing.{DueAt, Hits}
use Rattle.law.proofs.Invariant.{AboutFine, Between, Delivered, Enrolled, Good, Here, ItemFine, Lines, MarkFine, PayloadFine, SwitchFine, flight, number_in, number_of, said_by}
use Rattle.law.proofs.Brought.{Silent}
use Rattle.law.proofs.Items.{items_moved, items_stay, listed_entry}
use Rattle.law.proofs.Marks.{settled≢due, under_way≢due}

-- A payload accepted, that tells no act on the actor unless the actor is due.

good_accepted : (values : ℤ × ℤ) (a : ℕ) (e : End) (p : Payload) (rest : List Payload) → ((x : Act) → Tells a x p → ⊥) → Good values a e → Good values a (accepts p rest e)
good_accepted values a e p rest n (inl f) = inl f
good_accepted values a e p rest n (inr x) = inr (x.0, x.1, ⊎_elim (n x.0) x.2)

mark_accepted : (values : ℤ × ℤ) (a : ℕ) (e : End) (p : Payload) (rest : List Payload) (μ : Mark) → ((x : Act) → Tells a x p → μ ≡ Due)
    → MarkFine values a e μ → MarkFine values a (accepts p rest e) μ
mark_accepted values a e p rest Settled n g = (good_accepted values a e p rest (λ x t. settled≢due (n x t)) g.0, g.1)
mark_accepted values a e p rest Due n g = tt
mark_accepted values a e p rest UnderWay n g = (g.0, g.1, g.2, λ d. good_accepted values a e p rest (λ x t. under_way≢due (n x t)) (g.3 d))

pub kept_accepted : (st : Known) (o : Option SwitchModel) (e : End) (p : Payload) (rest : List Payload)
    → ((a : ℕ) (x : Act) → Tells a x p → is_some (st a) ≡ true → DueAt a o) → Enrolled st o e → Enrolled st o (accepts p rest e)
kept_accepted st None e p rest n f = f
kept_accepted st (Some m) e p rest n f =
    record {
      fits = f.fits;
      short = f.short;
      numbers = f.numbers;
      marks = f.marks;
      items = items_stay st f.marks e (accepts p rest e) m.items (λ x l g. mark_accepted _ _ e p rest x.mark (due x l g) g.fine) f.items;
    }
  where
    due : (x : Item) → lists_actor x.actor m.items ≡ true → ItemFine st f.marks e x → (y : Act) → Tells x.actor y p → x.mark ≡ Due
    due x l g y t =
        let r = listed_entry x.actor m.items (both m.items f.items (n x.actor y t g.known)) l in
        g.marked ∙ ap f.marks (sym r.1) ∙ sym r.2.0.marked ∙ r.2.1 r.1
      where
        both : (xs : List Item) → AllByRecursion (ItemFine st f.marks e) xs → AllByRecursion (λ z. z.actor ≡ x.actor → z.mark ≡ Due) xs
            → AllByRecursion (λ z. ItemFine st f.marks e z × (z.actor ≡ x.actor → z.mark ≡ Due)) xs
        both [] p q = tt
        both (z ∷ zs) p q = ((p.0, q.0), both zs p.1 q.1)

pub lines_accepted : (e : End) (p : Payload) (rest : List Payload) → e.line_from ≡ p ∷ rest → Lines e → Lines (accepts p rest e)
lines_accepted e p rest q l =
    let u = subst (AllByRecursion (PayloadFine e.display.acts e.line_to.delivered)) q l.coming in
    record { passed = l.passed; behind = l.behind; ahead = l.ahead; coming = u.1; taken = (u.0, l.taken) }

-- the head of the line
pub head_fine : (e : End) (p : Payload) (rest : List Payload) → e.line_from ≡ p ∷ rest → Lines e → PayloadFine e.display.acts e.line_to.delivered p
head_fine e p rest q l = (subst (AllByRecursion (PayloadFine e.display.acts e.line_to.delivered)) q l.coming).0

-- a payload that tells an act is an event that makes the actor due
pub tells_hits : (n : ℕ) (ps : List Packet) (p : Payload) → PayloadFine n ps p → (a : ℕ) (x : Act) → Tells a x p
    → (number_in (spoken p.bytes) ≡ 0) × Any (Hits a) (messages_in (spoken p.bytes))
tells_hits n ps p k a (world.Act.turn j) t =
    let r = subst (AboutFine n ps (spoken p.bytes)) t k.1 in (r.1, any_map (λ m y. inl y) _ r.2)
tells_hits n ps p k a (world.Act.restart j) t = (
  ap number_in t.2 ∙ t.3,
  any_map (λ m y. inr y) _ (subst (λ o. Any Inits (messages_in o)) (sym t.2) t.4),
)

-- An answer.

-- an answer with the number of the packet composed last answers that packet, which was delivered
answers_latest : (e : End) (p : Payload) (c : ℕ) → Lines e → PayloadFine e.display.acts e.line_to.delivered p → (number_in (spoken p.bytes) ≡ 0 → ⊥)
    → InTime e.line_to.composed p.about → e.line_to.composed ≡ suc c → number_in (spoken p.bytes) ≡ number_of c → Delivered c e.line_to.delivered
answers_latest e p c l k n i s q = go p.about k.1 i
  where
    go : (x : About) → AboutFine e.display.acts e.line_to.delivered (spoken p.bytes) x → InTime e.line_to.composed x → Delivered c e.line_to.delivered
    go (world.About.answer_to j) r t =
        let b = between_le l.passed (flight e.line_to) e.line_to.composed l.ahead in
        let d = delivered_below l.passed j e.line_to.delivered l.behind r.1 in
        let same : j ≡ c = same_packet j c (sym r.0 ∙ q) (omega arith) (omega arith) in
        subst (λ (x : ℕ). Delivered x e.line_to.delivered) same r.1
    go (world.About.turn_of j a) r t = absurd (n r.1)
    go world.About.other_event r t = absurd (n r)

-- everything under way has arrived
mark_answered : (values : ℤ × ℤ) (a : ℕ) (e : End) (c : ℕ) → e.line_to.composed ≡ suc c → Delivered c e.line_to.delivered → flight e.line_to ≡ [] → (μ : Mark)
    → MarkFine values a e μ → MarkFine values a e (moved μ Answered)
mark_answered values a e c s d z Settled g = g
mark_answered values a e c s d z Due g = tt
mark_answered values a e c s d z UnderWay g =
    let q : c ≡ g.0 = (let x = g.1 in omega arith) in
    (g.3 (subst (λ (n : ℕ). Delivered n e.line_to.delivered) q d), subst (AllByRecursion (λ p. Silent a (said_by p))) (sym z) tt)

switch_answered : (st : Known) (m : SwitchModel) (e : End) (c : ℕ) → e.line_to.composed ≡ suc c → Delivered c e.line_to.delivered → Lines e → SwitchFine st m e → SwitchFine st (answered m) e
switch_answered st m e c s d l f =
    let z = nothing_ahead l.passed c e.line_to.delivered (flight e.line_to) l.behind (subst (Between l.passed (flight e.line_to)) s l.ahead) d in
    record {
      fits = f.fits;
      short = still_short m.items _ f.short;
      numbers = record { next = f.numbers.next; awaits = inl refl; slip = f.numbers.slip };
      marks = λ a. moved (f.marks a) Answered;
      items = items_moved st f.marks e e m.items Answered (λ x r g. mark_answered _ _ e c s d z x.mark g.fine) f.items;
    }

-- the switch after an answer: settled if this was the awaited number
abbrev pub settled_by : ℕ → SwitchModel → SwitchModel
settled_by number m = cond (is_number m.numbers.awaited number) (answered m) m

switch_settled : (st : Known) (m : SwitchModel) (e : End) (p : Payload) → Lines e → PayloadFine e.display.acts e.line_to.delivered p → (number_in (spoken p.bytes) ≡ 0 → ⊥)
    → InTime e.line_to.composed p.about → SwitchFine st m e → SwitchFine st (settled_by (number_in (spoken p.bytes)) m) e
switch_settled st m e p l k n i f = go (is_number m.numbers.awaited (number_in (spoken p.bytes))) refl
  where
    go : (b : Bool) → is_number m.numbers.awaited (number_in (spoken p.bytes)) ≡ b → SwitchFine st (cond b (answered m) m) e
    go true q =
        ⊎_elim (λ z. absurd (some_number m.numbers.awaited _ q z))
        (λ x. switch_answered st m e x.0 x.1 (answers_latest e p x.0 l k n i x.1 (that_number m.numbers.awaited _ _ q x.2)) l f) f.numbers.awaits
    go false q = f

pub here_answered : (st : Known) (m : SwitchModel) (e : End) (p : Payload) (rest : List Payload) → e.line_from ≡ p ∷ rest → (number_in (spoken p.bytes) ≡ 0 → ⊥)
    → InTime e.line_to.composed p.about → Here st (Some m) e → Here st (Some (settled_by (number_in (spoken p.bytes)) m)) (accepts p rest e)
here_answered st m e p rest q n i h =
    let k = head_fine e p rest q h.0 in (
      lines_accepted e p rest q h.0,
      kept_accepted st (Some (settled_by (number_in (spoken p.bytes)) m)) e p rest (λ a x t _. absurd (n (tells_hits _ _ p k a x t).0)) (switch_settled st m e p h.0 k n i h.1),
    )
