-- A packet composed, sent or withheld, delivered or lost: what holds of its switch is kept.
use Rattle.std.proofs.Common.{◌≡◌, ℕ, suc, true, List, [], ◌∷◌, ◌++◌, ℤ, Some, None, Option, sym, refl, ap, ◌∙◌, subst, inl, inr, ⊎_elim, append-nil, le_refl, arith}
use Rattle.std.specs.List.{AllByRecursion}
use Rattle.std.proofs.ByRecursion.{All-push}
use Rattle.store.specs.Meaning.{Known}
use Rattle.model.specs.declared.item.Item.{Item}
use Rattle.model.specs.declared.mark.Change.TheVariants.{Composed, Withheld}
use Rattle.model.specs.declared.mark.Mark.{Mark}
use Rattle.model.specs.declared.mark.Mark.TheVariants.{Settled, Due, UnderWay}
use Rattle.model.specs.Composing.{brought_back, closed_slip, composed, number_after, records_for, values_of}
use Rattle.model.specs.Marks.{is_outstanding, moved}
use Rattle.model.specs.Models.{SwitchModel, lists_actor}
use Rattle.law.specs.Values.{spoken}
use Rattle.law.specs.World as world
use Rattle.law.specs.World.{About, End, Packet, Payload, delivers, discarded, issued, joined, lost, with_line_to}
use Rattle.law.proofs.Brought.{Agrees, Full, Silent, bring_silent, show_agrees, show_silent}
use Rattle.law.proofs.Changes.{still_short}
use Rattle.law.proofs.Elements.{all_front, all_then, cons≢nil}
use Rattle.law.proofs.Flights.{between_below, between_front, between_le, between_push, delivered_below, next_number, nothing_ahead}
use Rattle.law.proofs.Invariant.{AboutFine, Between, Enrolled, Here, Lines, MarkFine, PayloadFine, SwitchFine, flight, number_in, number_of, said_by}
use Rattle.law.proofs.Items.{items_moved, items_stay, same_mark}
use Rattle.law.proofs.Written.{told, writes_agree, writes_full, writes_silent}

-- Composed.

-- the packet that the hub writes for this switch now
pub record Fresh (st : Known) (m : SwitchModel) (e : End) (p : Packet) : Type 0 where
  pub index : p.index ≡ e.line_to.composed
  pub number : number_in (spoken p.payload) ≡ m.numbers.next
  pub says : said_by p ≡ told (records_for st m)

module _ (st : Known) (m : SwitchModel) (e : End) (p : Packet) (fresh : Fresh st m e p) (l : Lines e) where
  abbrev e' : End
  e' = with_line_to (issued p e.line_to) e

  before : Between l.passed e.line_to.line e.line_to.composed
  before = between_front l.passed e.line_to.line e.line_to.waiting e.line_to.composed l.ahead

  -- an outstanding actor is under way in this packet
  under_way : (x : Item) → AllByRecursion (λ y. y.actor ≡ x.actor → y.mark ≡ x.mark) m.items → lists_actor x.actor m.items ≡ true → is_outstanding x.mark ≡ true
      → MarkFine (values_of (st x.actor)) x.actor e' UnderWay
  under_way x same listed o = (
    e.line_to.composed,
    refl,
    All-push (λ q. q.index ≡ e.line_to.composed → Agrees (values_of (st x.actor)) x.actor (said_by q) × Full x.actor (said_by q)) e.line_to.line p
        (all_then (λ q h z. absurd (omega arith)) e.line_to.line (between_below l.passed e.line_to.line e.line_to.composed before))
        (λ z. subst (λ ms. Agrees (values_of (st x.actor)) x.actor ms × Full x.actor ms) (sym fresh.says)
        (writes_agree st x.actor m, writes_full st x.actor m (all_then (λ y q z. ap is_outstanding (q z) ∙ o) m.items same) listed)),
    λ d. let x = delivered_below l.passed e.line_to.composed e.line_to.delivered l.behind d in let y = between_le l.passed e.line_to.line e.line_to.composed before in absurd (omega arith),
  )

  mark_composed : (x : Item) → AllByRecursion (λ y. y.actor ≡ x.actor → y.mark ≡ x.mark) m.items → lists_actor x.actor m.items ≡ true → (μ : Mark) → x.mark ≡ μ
      → MarkFine (values_of (st x.actor)) x.actor e μ → MarkFine (values_of (st x.actor)) x.actor e' (moved μ Composed)
  mark_composed x same listed Settled q g = (
    g.0,
    All-push (λ r. Silent x.actor (said_by r)) e.line_to.line p (all_front (λ r. Silent x.actor (said_by r)) e.line_to.line e.line_to.waiting g.1)
        (subst (Silent x.actor) (sym fresh.says) (writes_silent st x.actor m (all_then (λ y r z. ap is_outstanding (r z ∙ q)) m.items same))),
  )
  mark_composed x same listed Due q g = under_way x same listed (ap is_outstanding q)
  mark_composed x same listed UnderWay q g = under_way x same listed (ap is_outstanding q)

  lines_composed : SwitchFine st m e → Lines e'
  lines_composed f =
      record {
        passed = l.passed;
        behind = l.behind;
        ahead = between_push l.passed e.line_to.line e.line_to.composed p fresh.index (fresh.number ∙ f.numbers.next ∙ ap number_of (sym fresh.index)) before;
        coming = l.coming;
        taken = l.taken;
      }

  switch_composed : SwitchFine st m e → SwitchFine st (composed m) e'
  switch_composed f =
      record {
        fits = f.fits;
        short = still_short m.items _ f.short;
        numbers = record {
          next = ap number_after f.numbers.next ∙ next_number e.line_to.composed;
          awaits = inr (e.line_to.composed, refl, ap Some f.numbers.next);
          slip = inr (p, refl, ap suc (sym fresh.index));
        };
        marks = λ a. moved (f.marks a) Composed;
        items = items_moved st f.marks e e' m.items Composed (λ x r g. mark_composed x (same_mark x g m.items f.items) r x.mark refl g.fine) f.items;
      }

pub here_composed : (st : Known) (m : SwitchModel) (e : End) (p : Packet) → Fresh st m e p → Here st (Some m) e → Here st (Some (composed m)) (with_line_to (issued p e.line_to) e)
here_composed st m e p fresh h = (lines_composed st m e p fresh h.0 h.1, switch_composed st m e p fresh h.0 h.1)

-- Sent or withheld: the same packets in flight, or fewer.

abbrev re_line : List Packet → List Packet → End → End
re_line xs ys e = with_line_to (record { line = xs; waiting = ys; composed = e.line_to.composed; delivered = e.line_to.delivered }) e

mark_fewer : (values : ℤ × ℤ) (a : ℕ) (e : End) (xs ys : List Packet) → ((P : Packet → Type 0) → AllByRecursion P (flight e.line_to) → AllByRecursion P (xs ++ ys)) → (μ : Mark)
    → MarkFine values a e μ → MarkFine values a (re_line xs ys e) μ
mark_fewer values a e xs ys t Settled g = (g.0, t _ g.1)
mark_fewer values a e xs ys t Due g = tt
mark_fewer values a e xs ys t UnderWay g = (g.0, g.1, t _ g.2, g.3)

mark_back : (values : ℤ × ℤ) (a : ℕ) (e : End) (μ : Mark) → MarkFine values a e μ → MarkFine values a e (moved μ Withheld)
mark_back values a e Settled g = g
mark_back values a e Due g = tt
mark_back values a e UnderWay g = tt

all_same : (P : Packet → Type 0) (xs : List Packet) → AllByRecursion P xs → AllByRecursion P (xs ++ [])
all_same P xs p = subst (AllByRecursion P) (sym (append-nil xs)) p

pub here_sent : (st : Known) (m : SwitchModel) (e : End) → Here st (Some m) e → Here st (Some (closed_slip m)) (with_line_to (joined e.line_to) e)
here_sent st m e h =
    let l = h.0 in
    let f = h.1 in (
      record {
        passed = l.passed;
        behind = l.behind;
        ahead = subst (λ x. Between l.passed x e.line_to.composed) (sym (append-nil (flight e.line_to))) l.ahead;
        coming = l.coming;
        taken = l.taken;
      },
      record {
        fits = f.fits;
        short = f.short;
        numbers = record { next = f.numbers.next; awaits = f.numbers.awaits; slip = inl refl };
        marks = f.marks;
        items = items_stay st f.marks e (with_line_to (joined e.line_to) e) m.items
            (λ x r g. mark_fewer _ _ e (flight e.line_to) [] (λ P. all_same P (flight e.line_to)) x.mark g.fine) f.items;
      },
    )

pub here_withheld : (st : Known) (m : SwitchModel) (e : End) → Here st (Some m) e → Here st (Some (brought_back m)) (with_line_to (discarded e.line_to) e)
here_withheld st m e h =
    let l = h.0 in
    let f = h.1 in
    let d = e.line_to in (
      record {
        passed = l.passed;
        behind = l.behind;
        ahead = subst (λ x. Between l.passed x d.composed) (sym (append-nil d.line)) (between_front l.passed d.line d.waiting d.composed l.ahead);
        coming = l.coming;
        taken = l.taken;
      },
      record {
        fits = f.fits;
        short = still_short m.items _ f.short;
        numbers = record { next = f.numbers.next; awaits = inl refl; slip = inl refl };
        marks = λ a. moved (f.marks a) Withheld;
        items = items_moved st f.marks e (with_line_to (discarded d) e) m.items Withheld
            (λ x r g. mark_fewer _ _ e d.line [] (λ P p. all_same P d.line (all_front P d.line d.waiting p)) _ (mark_back _ _ e x.mark g.fine)) f.items;
      },
    )

-- Lost.

-- the switch's model as it is, and the numbers with it
pub switch_stays : (st : Known) (o : Option SwitchModel) (e e' : End) → e.line_to.composed ≡ e'.line_to.composed → e.line_to.waiting ≡ e'.line_to.waiting
    → ((values : ℤ × ℤ) (a : ℕ) (μ : Mark) → MarkFine values a e μ → MarkFine values a e' μ) → Enrolled st o e → Enrolled st o e'
switch_stays st None e e' c w g f = sym c ∙ f
switch_stays st (Some m) e e' c w g f =
    record {
      fits = f.fits;
      short = f.short;
      numbers = record {
        next = f.numbers.next ∙ ap number_of c;
        awaits = ⊎_elim (λ z. inl z) (λ x. inr (x.0, sym c ∙ x.1, x.2)) f.numbers.awaits;
        slip = ⊎_elim (λ z. inl z) (λ x. inr (x.0, sym w ∙ x.1, sym c ∙ x.2)) f.numbers.slip;
      };
      marks = f.marks;
      items = items_stay st f.marks e e' m.items (λ x r q. g _ _ x.mark q.fine) f.items;
    }

pub here_lost : (st : Known) (o : Option SwitchModel) (e : End) (p : Packet) (rest : List Packet) → e.line_to.line ≡ p ∷ rest
    → Here st o e → Here st o (with_line_to (lost rest e.line_to) e)
here_lost st o e p rest q h =
    let l = h.0 in
    let b = subst (λ x. Between l.passed (x ++ e.line_to.waiting) e.line_to.composed) q l.ahead in (
      record {
        passed = suc p.index;
        behind = all_then (λ d x. (let y = x.0 in let z = b.0 in omega arith, x.1)) _ l.behind;
        ahead = b.2;
        coming = l.coming;
        taken = l.taken;
      },
      switch_stays st o e (with_line_to (lost rest e.line_to) e) refl refl
          (λ values a μ. mark_fewer values a e rest e.line_to.waiting (λ P x. (subst (λ y. AllByRecursion P (y ++ e.line_to.waiting)) q x).1) μ) h.1,
    )

-- Delivered.

payload_later : (n : ℕ) (ps : List Packet) (p : Packet) (x : Payload) → PayloadFine n ps x → PayloadFine n (p ∷ ps) x
payload_later n ps p x k = (k.0, go x.about k.1)
  where
    go : (y : About) → AboutFine n ps (spoken x.bytes) y → AboutFine n (p ∷ ps) (spoken x.bytes) y
    go (world.About.answer_to j) r = (r.0, inr r.1)
    go (world.About.turn_of j a) r = r
    go world.About.other_event r = r

mark_delivered : (e : End) (p : Packet) (rest : List Packet) → e.line_to.line ≡ p ∷ rest → Lines e → (values : ℤ × ℤ) (a : ℕ) (μ : Mark)
    → MarkFine values a e μ → MarkFine values a (delivers p rest e) μ
mark_delivered e p rest q l values a Settled g =
    let s = subst (λ y. AllByRecursion (λ r. Silent a (said_by r)) (y ++ e.line_to.waiting)) q g.1 in (
      ⊎_elim (λ f. inl (λ half. show_silent a (said_by p) s.0 e.display.shown half ∙ f half))
          (λ x. inr (x.0, bring_silent a (said_by p) s.0 e.display.latest ∙ x.1, x.2)) g.0,
      s.1,
    )
mark_delivered e p rest q l values a Due g = tt
mark_delivered e p rest q l values a UnderWay g =
    let s = subst (λ y. AllByRecursion (λ r. r.index ≡ g.0 → Agrees values a (said_by r) × Full a (said_by r)) (y ++ e.line_to.waiting)) q g.2 in (
      g.0,
      g.1,
      s.1,
      ⊎_elim (λ i. inl (λ half. show_agrees values a (said_by p) (s.0 i).0 e.display.shown half (inr ((s.0 i).1 half))))
          (λ d. absurd (cons≢nil (sym (ap (λ y. y ++ e.line_to.waiting) q) ∙
          nothing_ahead l.passed g.0 e.line_to.delivered (flight e.line_to) l.behind (subst (Between l.passed (flight e.line_to)) g.1 l.ahead) d))),
    )

pub here_delivered : (st : Known) (o : Option SwitchModel) (e : End) (p : Packet) (rest : List Packet) → e.line_to.line ≡ p ∷ rest → Here st o e → Here st o (delivers p rest e)
here_delivered st o e p rest q h =
    let l = h.0 in
    let b = subst (λ x. Between l.passed (x ++ e.line_to.waiting) e.line_to.composed) q l.ahead in (
      record {
        passed = suc p.index;
        behind = ((le_refl (suc p.index), b.1), all_then (λ d x. (let y = x.0 in let z = b.0 in omega arith, x.1)) _ l.behind);
        ahead = b.2;
        coming = all_then (payload_later _ _ p) _ l.coming;
        taken = all_then (payload_later _ _ p) _ l.taken;
      },
      switch_stays st o e (delivers p rest e) refl refl (mark_delivered e p rest q l) h.1,
    )
