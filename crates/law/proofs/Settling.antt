-- From a compose on, with no change, until its answer is taken: no item of the switch is due.
use Rattle.std.proofs.Common.{◌≡◌, ℕ, suc, Bool, true, false, cond, eqb, ◌⊎◌, List, [], ◌∷◌, ◌++◌, map, take, ℤ, Some, None, Ok, Option, sym, refl, ap, ◌∙◌, subst, inl, inr, ⊎_elim, append-nil, arith}
use Rattle.std.specs.Option.{option_map, option_or}
use Rattle.std.specs.List.{AllByRecursion}
use Rattle.std.proofs.lemmas.Bool.{eq-eqb, eqb-false, eqb-true, ne_eqb, or_from}
use Rattle.packet.specs.declared.message.Message.{Message}
use Rattle.packet.specs.declared.descriptor.Descriptor.{Descriptor}
use Rattle.packet.specs.Words.{major}
use Rattle.store.specs.declared.actor_store.Half.{Half}
use Rattle.store.specs.Meaning as store
use Rattle.model.specs.declared.item.Item.{Item}
use Rattle.model.specs.declared.mark.Change.TheVariants.{Answered, Composed}
use Rattle.model.specs.declared.mark.Mark.TheVariants.{Settled, Due}
use Rattle.model.specs.declared.told.Arrival.{Arrival}
use Rattle.model.specs.declared.told.Site.{Site}
use Rattle.model.specs.Composing.{brought_back, closed_slip, composed, composed_bytes, has_outstanding}
use Rattle.model.specs.Marks.{is_outstanding}
use Rattle.model.specs.Models.{HubModel, SwitchModel, any_outstanding, at_switch, change_switch, find_switch, is_number, moved_item, touched, with_control}
use Rattle.model.specs.Opening.{new_switch}
use Rattle.model.specs.Settings.{at_enrolled, set_value}
use Rattle.model.specs.Taking.{answered, take_payload}
use Rattle.law.specs.Values.{Any, Edits, Inits, spoken}
use Rattle.law.specs.World as world
use Rattle.law.specs.World.{About, End, Move, Packet, Payload, World, accepts, delivers, discarded, issued, joined, lost, packet_now, with_line_to}
use Rattle.law.specs.Law as law
use Rattle.law.specs.Law.{Lists, Quiet, Quietly, Settling}
use Rattle.law.proofs.Answers.{head_fine, settled_by}
use Rattle.law.proofs.Elements.{all_then, all_mapped, some_number}
use Rattle.law.proofs.Flights.{between_below, between_last, between_le, delivered_below, number≢0}
use Rattle.law.proofs.Granted.{compose_is, control_is, enrol_is, refused_leaves, sent_is, set_is, withheld_is}
use Rattle.law.proofs.Held.{Lawful}
use Rattle.law.proofs.Invariant.{AboutFine, Between, Delivered, Enrolled, Here, Holds, SiteFits, SwitchFine, flight, number_in, number_of}
use Rattle.law.proofs.Marks.{not_due_composed, settled_answered, settled≢due}
use Rattle.law.proofs.Moves.{keep, keep_run}
use Rattle.law.proofs.Quiet.{Kept, hear_quiet, kept_same, kept_untouched}
use Rattle.law.proofs.Switches.{KeepsId, find_append, find_at_other, find_at_same, find_map}
use Rattle.law.proofs.Taken.{answer_is, answered_if, event_is, hear_all}
use Rattle.law.proofs.Truth.{holds_at_opening}

-- every item settled; none due
abbrev Clear : SwitchModel → Type 0
Clear m = AllByRecursion (λ x. x.mark ≡ Settled) m.items × (m.mark ≡ Settled)

abbrev NoneDue : SwitchModel → Type 0
NoneDue m = AllByRecursion (λ x. x.mark ≡ Due → ⊥) m.items × (m.mark ≡ Due → ⊥)

none_outstanding : (items : List Item) → AllByRecursion (λ x. x.mark ≡ Settled) items → any_outstanding items ≡ false
none_outstanding [] p = refl
none_outstanding (x ∷ xs) p = or_from (is_outstanding x.mark) (any_outstanding xs) (ap is_outstanding p.0) (none_outstanding xs p.1)

clear_answer : (m : SwitchModel) → Clear m → has_outstanding m ≡ false
clear_answer m c = or_from (any_outstanding m.items) (is_outstanding m.mark) (none_outstanding m.items c.0) (ap is_outstanding c.1)

clear_none_due : (m : SwitchModel) → Clear m → NoneDue m
clear_none_due m c = (all_then (λ x p e. settled≢due (sym p ∙ e)) m.items c.0, λ e. settled≢due (sym c.1 ∙ e))

answered_clear : (m : SwitchModel) → NoneDue m → Clear (answered m)
answered_clear m d = (all_mapped (moved_item Answered) (λ x. x.mark ≡ Settled) (λ x p. settled_answered x.mark p) m.items d.0, settled_answered m.mark d.1)

composed_none_due : (m : SwitchModel) → NoneDue (composed m)
composed_none_due m = (go m.items, not_due_composed m.mark)
  where
    go : (xs : List Item) → AllByRecursion (λ x. x.mark ≡ Due → ⊥) (map (moved_item Composed) xs)
    go [] = tt
    go (x ∷ xs) = (not_due_composed x.mark, go xs)

-- The packet of index k is the one composed last.
module _ (k : ℕ) where
  -- none due, and its answer awaited
  abbrev Pending : SwitchModel → Type 0
  Pending m = (m.numbers.awaited ≡ Some (number_of k)) × NoneDue m

  -- it was withheld, and never comes
  abbrev Gone : End → Type 0
  Gone e = AllByRecursion (λ p. p.index ≡ k → ⊥) (flight e.line_to) × (Delivered k e.line_to.delivered → ⊥)

  abbrev Waits : Option SwitchModel → End → Type 0
  Waits None e = ⊥
  Waits (Some m) e = (e.line_to.composed ≡ suc k) × (Gone e ⊎ (Clear m ⊎ Pending m))

  waits_kept : (m n : SwitchModel) (e : End) → Kept m n → Waits (Some m) e → Waits (Some n) e
  waits_kept m n e p w = (w.0, f w.1)
    where
      none_due : NoneDue m → NoneDue n
      none_due d = (subst (AllByRecursion (λ x. x.mark ≡ Due → ⊥)) (sym p.items) d.0, λ z. d.1 (sym p.mark ∙ z))

      f : Gone e ⊎ (Clear m ⊎ Pending m) → Gone e ⊎ (Clear n ⊎ Pending n)
      f (inl g) = inl g
      f (inr (inl c)) = inr (inl (subst (AllByRecursion (λ x. x.mark ≡ Settled)) (sym p.items) c.0, p.mark ∙ c.1))
      f (inr (inr q)) = inr (inr (p.awaited ∙ q.0, none_due q.1))

  -- a switch found then, for the one found before
  waits_found : (o o' : Option SwitchModel) (e : End) (m n : SwitchModel) → o ≡ Some m → o' ≡ Some n → Kept m n → Waits o e → Waits o' e
  waits_found o o' e m n q r p y = subst (λ x. Waits x e) (sym r) (waits_kept m n e p (subst (λ x. Waits x e) q y))

  -- the switch that waits
  waiting_switch : (o : Option SwitchModel) (e : End) → Waits o e → (m : SwitchModel) × (o ≡ Some m)
  waiting_switch None e w = absurd w
  waiting_switch (Some m) e w = (m, refl)

  -- an answer
  waits_answered : (m : SwitchModel) (e e' : End) → e.line_to.composed ≡ e'.line_to.composed → (Gone e → Gone e') → Waits (Some m) e → Waits (Some (answered m)) e'
  waits_answered m e e' c t w = (sym c ∙ w.0, f w.1)
    where
      f : Gone e ⊎ (Clear m ⊎ Pending m) → Gone e' ⊎ (Clear (answered m) ⊎ Pending (answered m))
      f (inl g) = inl (t g)
      f (inr (inl s)) = inr (inl (answered_clear m (clear_none_due m s)))
      f (inr (inr q)) = inr (inl (answered_clear m q.1))

  -- what leaves the model of the switch alone
  waits_end : (o : Option SwitchModel) (e e' : End) → e.line_to.composed ≡ e'.line_to.composed → (Gone e → Gone e') → Waits o e → Waits o e'
  waits_end None e e' c t w = w
  waits_end (Some m) e e' c t w = (sym c ∙ w.0, ⊎_elim (λ g. inl (t g)) (λ r. inr r) w.1)

  -- at switch s of a world
  abbrev WaitsAt : World → ℕ → Type 0
  WaitsAt w s = Waits (find_switch s w.hub.switches) (w.ends s)

  focus_end : (w : World) (s t : ℕ) (o : Option SwitchModel) (e : End) → (Waits o (w.ends t) → Waits o e) → Waits o (w.ends s) → Waits o (cond (eqb t s) e (w.ends s))
  focus_end w s t o e g x = f (eqb t s) refl
    where
      f : (b : Bool) → eqb t s ≡ b → Waits o (cond b e (w.ends s))
      f true q = g (subst (λ (y : ℕ). Waits o (w.ends y)) (sym (eqb-true t s q)) x)
      f false q = x

  focus_step : (w : World) (s t : ℕ) (f : SwitchModel → SwitchModel) → KeepsId f → (e : End) → (m : SwitchModel) → find_switch t w.hub.switches ≡ Some m
      → (Waits (Some m) (w.ends t) → Waits (Some (f m)) e)
      → WaitsAt w s → Waits (find_switch s (at_switch t f w.hub.switches)) (cond (eqb t s) e (w.ends s))
  focus_step w s t f i e m q g x = h (eqb t s) refl
    where
      h : (b : Bool) → eqb t s ≡ b → Waits (find_switch s (at_switch t f w.hub.switches)) (cond b e (w.ends s))
      h true z =
          let r = eqb-true t s z in
          subst (λ (y : ℕ). Waits (find_switch y (at_switch t f w.hub.switches)) e) r
          (subst (λ o. Waits o e) (sym (find_at_same t f i w.hub.switches ∙ ap (option_map f) q))
          (g (subst (λ o. Waits o (w.ends t)) q (subst (λ (y : ℕ). WaitsAt w y) (sym r) x))))
      h false z = subst (λ o. Waits o (w.ends s)) (sym (find_at_other t s f i (eqb-false t s z) w.hub.switches)) x

  -- a step of switch t's end alone, which packets gone survive
  end_alone : (w : World) (s t : ℕ) (e : End) → (w.ends t).line_to.composed ≡ e.line_to.composed → (Gone (w.ends t) → Gone e) → WaitsAt w s
      → Waits (find_switch s w.hub.switches) (cond (eqb t s) e (w.ends s))
  end_alone w s t e c g = focus_end w s t (find_switch s w.hub.switches) e (waits_end (find_switch s w.hub.switches) (w.ends t) e c g)

  gone_delivered : (e : End) (p : Packet) (rest : List Packet) → e.line_to.line ≡ p ∷ rest → Gone e → Gone (delivers p rest e)
  gone_delivered e p rest q g =
      let a = subst (λ y. AllByRecursion (λ r. r.index ≡ k → ⊥) (y ++ e.line_to.waiting)) q g.0 in
      (a.1, ⊎_elim a.0 g.1)

  gone_lost : (e : End) (p : Packet) (rest : List Packet) → e.line_to.line ≡ p ∷ rest → Gone e → Gone (with_line_to (lost rest e.line_to) e)
  gone_lost e p rest q g = ((subst (λ y. AllByRecursion (λ r. r.index ≡ k → ⊥) (y ++ e.line_to.waiting)) q g.0).1, g.1)

  gone_sent : (e : End) → Gone e → Gone (with_line_to (joined e.line_to) e)
  gone_sent e g = (subst (AllByRecursion (λ p. p.index ≡ k → ⊥)) (sym (append-nil (flight e.line_to))) g.0, g.1)

  waits_sent : (m : SwitchModel) (e : End) → Waits (Some m) e → Waits (Some (closed_slip m)) (with_line_to (joined e.line_to) e)
  waits_sent m e x = waits_end (Some (closed_slip m)) e (with_line_to (joined e.line_to) e) refl (gone_sent e) (waits_kept m (closed_slip m) e (record { items = refl; mark = refl; awaited = refl }) x)

  -- a withheld packet never comes
  waits_withheld : (st : store.Known) (m : SwitchModel) (n : ℕ) (e : End) → is_number m.numbers.slip n ≡ true → Here st (Some m) e → Waits (Some m) e
      → Waits (Some (brought_back m)) (with_line_to (discarded e.line_to) e)
  waits_withheld st m n e open_slip h x = (x.0, inl (⊎_elim (λ z. absurd (some_number m.numbers.slip n open_slip z)) gone h.1.numbers.slip))
    where
      gone : (p : Packet) × (e.line_to.waiting ≡ p ∷ []) × (e.line_to.composed ≡ suc p.index) → Gone (with_line_to (discarded e.line_to) e)
      gone r =
          let l = h.0 in
          let p = r.0 in
          let i : p.index ≡ k = (let y = r.2 in let z = x.0 in omega arith) in
          let b = between_last l.passed e.line_to.line p e.line_to.composed (subst (λ y. Between l.passed (e.line_to.line ++ y) e.line_to.composed) r.1 l.ahead) in (
            subst (AllByRecursion (λ q. q.index ≡ k → ⊥)) (sym (append-nil e.line_to.line))
                (all_then (λ q y z. omega arith) e.line_to.line (between_below l.passed e.line_to.line p.index b)),
            λ d. let y = delivered_below l.passed k e.line_to.delivered l.behind d in let z = between_le l.passed e.line_to.line p.index b in omega arith,
          )

  waits_set : (s : ℕ) (w : World) (a : ℕ) (half : Half) (v : ℤ) (g : HubModel) → set_value w.hub a half v ≡ Ok (tt, g) → (Lists w s a → ⊥) → WaitsAt w s → Waits (find_switch s g.switches) (w.ends s)
  waits_set s w a half v g p q y =
      let r = waiting_switch (find_switch s w.hub.switches) (w.ends s) y in
      subst (λ h. Waits (find_switch s h.switches) (w.ends s)) (sym (set_is w.hub a half v g p).1)
      (waits_found _ _ (w.ends s) r.0 (touched a r.0) r.1 (find_map (touched a) (λ m. refl) s w.hub.switches ∙ ap (option_map (touched a)) r.1)
      (kept_untouched r.0 a (λ l. q (r.0, r.1, l))) y)

  waits_event : (s : ℕ) (w : World) (t : ℕ) (p : Payload) (rest : List Payload) (d : Descriptor) (ms : List Message) (told : Arrival) (count : ℕ) (g : HubModel)
      → spoken p.bytes ≡ Some (d, ms) → d.switch ≡ t → d.number ≡ 0 → take_payload w.hub p.bytes ≡ Ok ((told, count), g)
      → ((a : ℕ) → Lists w s a → Any (Edits a) ms → ⊥) × (t ≡ s → Any Inits ms → ⊥)
      → WaitsAt w s → Waits (find_switch s g.switches) (cond (eqb t s) (accepts p rest (w.ends t)) (w.ends s))
  waits_event s w t p rest d ms told count g said from zero taken q y =
      let r = event_is w.hub p.bytes d ms told count g said zero taken in
      let m = waiting_switch (find_switch s w.hub.switches) (w.ends s) y in
      let n = hear_quiet s t ms w.hub m.0 m.1 (λ a l. q.0 a (m.0, m.1, l)) q.1 in
      subst (λ h. Waits (find_switch s h.switches) (cond (eqb t s) (accepts p rest (w.ends t)) (w.ends s))) (sym (r.after ∙ ap (λ (x : ℕ). hear_all x ms w.hub) from))
      (focus_end w s t _ _ (waits_end _ (w.ends t) _ refl (λ z. z))
      (waits_found _ _ (w.ends s) m.0 n.0 m.1 n.1 n.2 y))

  waits_answer : (s : ℕ) (w : World) (t : ℕ) (p : Payload) (rest : List Payload) (d : Descriptor) (ms : List Message) (x : Arrival × ℕ) (g : HubModel)
      → spoken p.bytes ≡ Some (d, ms) → d.switch ≡ t → (d.number ≡ 0 → ⊥) → take_payload w.hub p.bytes ≡ Ok (x, g)
      → WaitsAt w s → Waits (find_switch s g.switches) (cond (eqb t s) (accepts p rest (w.ends t)) (w.ends s))
  waits_answer s w t p rest d ms x g said from n taken y =
      let a = answer_is w.hub p.bytes d ms x g said n taken in
      subst (λ h. Waits (find_switch s h.switches) (cond (eqb t s) (accepts p rest (w.ends t)) (w.ends s))) (sym (a.2 ∙ ap (answered_if d.number a.0 w.hub) from))
      (go a.0 (ap (λ (i : ℕ). find_switch i w.hub.switches) (sym from) ∙ a.1) (is_number a.0.numbers.awaited d.number))
    where
      go : (m : SwitchModel) → find_switch t w.hub.switches ≡ Some m → (b : Bool)
          → Waits (find_switch s (cond b (change_switch t answered w.hub) w.hub).switches) (cond (eqb t s) (accepts p rest (w.ends t)) (w.ends s))
      go m q true = focus_step w s t answered (λ i. refl) (accepts p rest (w.ends t)) m q (waits_answered m (w.ends t) (accepts p rest (w.ends t)) refl (λ z. z)) y
      go m q false = end_alone w s t _ refl (λ z. z) y

  -- every quiet move
  waits_move : (site : Site) (s : ℕ) {w u : World} (x : Move w u) → Holds site w → Quiet s x → WaitsAt w s → WaitsAt u s
  waits_move site s {w} (world.Move.enrols id list g small f p) i q y =
      let r = enrol_is w.hub id list g p in
      let m = waiting_switch (find_switch s w.hub.switches) (w.ends s) y in
      subst (λ h. Waits (find_switch s h.switches) (w.ends s)) (sym r.0)
      (waits_found _ _ (w.ends s) m.0 m.0 m.1
      (find_append s w.hub.switches (new_switch id list) ∙ ap (λ o. option_or o (cond (eqb id s) (Some (new_switch id list)) None)) m.1) (kept_same m.0) y)
  waits_move site s {w} (world.Move.sets half a v g p) i q y = waits_set s w a half v g p q y
  waits_move site s {w} (world.Move.sets_control id word g p) i q y =
      subst (λ h. Waits (find_switch s h.switches) (w.ends s)) (sym (control_is w.hub id word g p))
      (subst (λ o. Waits o (w.ends s)) (sym (find_at_other id s (with_control word) (λ m. refl) q w.hub.switches)) y)
  waits_move site s {w} (world.Move.takes_event t p rest d ms told count g head said from zero taken) i q y = waits_event s w t p rest d ms told count g said from zero taken q y
  waits_move site s {w} (world.Move.takes_answer t p rest d ms told count g head said from n taken time) i q y = waits_answer s w t p rest d ms (told, count) g said from n taken y
  waits_move site s {w} (world.Move.composes t buf c g p) i q y =
      let r = compose_is w.hub t buf c g p in
      let e : End = with_line_to (issued (packet_now w t (take c.size (composed_bytes w.hub t buf))) (w.ends t).line_to) (w.ends t) in
      subst (λ h. Waits (find_switch s h.switches) (cond (eqb t s) e (w.ends s))) (sym r.after)
      (subst (λ o. Waits o (cond (eqb t s) e (w.ends s))) (sym (find_at_other t s composed (λ m. refl) q w.hub.switches))
      (subst (λ (b : Bool). Waits (find_switch s w.hub.switches) (cond b e (w.ends s))) (sym (ne_eqb t s q)) y))
  waits_move site s {w} (world.Move.sends t number g p) i q y =
      let r = sent_is w.hub t number g p in
      subst (λ h. Waits (find_switch s h.switches) (cond (eqb t s) (with_line_to (joined (w.ends t).line_to) (w.ends t)) (w.ends s))) (sym r.2)
      (focus_step w s t closed_slip (λ m. refl) _ r.0 r.1 (waits_sent r.0 (w.ends t)) y)
  waits_move site s {w} (world.Move.withholds t number g p) i q y =
      let r = withheld_is w.hub t number g p in
      subst (λ h. Waits (find_switch s h.switches) (cond (eqb t s) (with_line_to (discarded (w.ends t).line_to) (w.ends t)) (w.ends s))) (sym r.2)
      (focus_step w s t brought_back (λ m. refl) _ r.0 r.1
      (waits_withheld w.hub.store r.0 number (w.ends t) r.3 (subst (λ o. Here w.hub.store o (w.ends t)) r.1 (i.each t))) y)
  waits_move site s {w} (world.Move.refuses c x) i q y = subst (λ (h : HubModel). Waits (find_switch s h.switches) (w.ends s)) (sym (refused_leaves w.hub c x)) y
  waits_move site s {w} (world.Move.arrives t p rest x) i q y = end_alone w s t _ refl (gone_delivered (w.ends t) p rest x) y
  waits_move site s {w} (world.Move.loses_packet t p rest x) i q y = end_alone w s t _ refl (gone_lost (w.ends t) p rest x) y
  waits_move site s {w} (world.Move.loses_payload t p rest x) i q y = end_alone w s t _ refl (λ z. z) y
  waits_move site s {w} (world.Move.answers t j bytes d ms said x) i q y = end_alone w s t _ refl (λ z. z) y
  waits_move site s {w} (world.Move.turns t a v bytes d ms l said z x) i q y = end_alone w s t _ refl (λ z. z) y
  waits_move site s {w} (world.Move.restarts t) i q y = end_alone w s t _ refl (λ z. z) y
  waits_move site s {w} (world.Move.reports t bytes d ms said z) i q y = end_alone w s t _ refl (λ z. z) y

  -- its answer taken: every item is settled
  clear_at_last : (m : SwitchModel) (e : End) → Delivered k e.line_to.delivered → Waits (Some m) e → Clear (settled_by (number_of k) m)
  clear_at_last m e d x = f x.1
    where
      was_clear : Clear m → (b : Bool) → Clear (cond b (answered m) m)
      was_clear c true = answered_clear m (clear_none_due m c)
      was_clear c false = c

      f : Gone e ⊎ (Clear m ⊎ Pending m) → Clear (settled_by (number_of k) m)
      f (inl g) = absurd (g.1 d)
      f (inr (inl c)) = was_clear c (is_number m.numbers.awaited (number_of k))
      f (inr (inr p)) = subst (λ (b : Bool). Clear (cond b (answered m) m)) (sym (ap (λ o. is_number o (number_of k)) p.0 ∙ eq-eqb (number_of k) (number_of k) refl)) (answered_clear m p.1)

  waits_run : (site : Site) → SiteFits site → major site.version ≡ 2 → (s : ℕ) {w u : World} → Quietly s w u → Holds site w → WaitsAt w s → Holds site u × WaitsAt u s
  waits_run site fit version s law.Quietly.stay i y = (i, y)
  waits_run site fit version s (law.Quietly.then r x q) i y =
      let z = waits_run site fit version s r i y in (keep site fit version x z.0, waits_move site s x z.0 q z.1)

-- the hub after an answer, at the switch that sent it
found_answered : (h : HubModel) (s number : ℕ) (m : SwitchModel) → find_switch s h.switches ≡ Some m → find_switch s (answered_if number m h s).switches ≡ Some (settled_by number m)
found_answered h s number m q = go (is_number m.numbers.awaited number)
  where
    go : (b : Bool) → find_switch s (cond b (change_switch s answered h) h).switches ≡ Some (cond b (answered m) m)
    go true = find_at_same s answered (λ n. refl) h.switches ∙ ap (option_map answered) q
    go false = q

pub settling : (site : Site) (st : store.Known) → SiteFits site → major site.version ≡ 2 → Lawful st → Settling site st
settling site st fit version l w run s buf c g composes u quiet p rest d ms head about said from told count after taken =
    let k = (w.ends s).line_to.composed in
    let i = keep_run site fit version run (holds_at_opening site st l) in
    let r = compose_is w.hub s buf c g composes in
    let m = r.switch in
    let f : SwitchFine w.hub.store m (w.ends s) = subst (λ o. Enrolled w.hub.store o (w.ends s)) r.enrolled (i.each s).1 in
    let e : End = with_line_to (issued (packet_now w s (take c.size (composed_bytes w.hub s buf))) (w.ends s).line_to) (w.ends s) in
    let start : Waits k (find_switch s g.switches) (cond (eqb s s) e (w.ends s)) =
    (subst (λ (b : Bool). Waits k (find_switch s g.switches) (cond b e (w.ends s))) (sym (eq-eqb s s refl))
    (subst (λ o. Waits k o e) (sym (ap (λ (h : HubModel). find_switch s h.switches) r.after ∙ find_at_same s composed (λ n. refl) w.hub.switches ∙ ap (option_map composed) r.enrolled))
    (refl, inr (inr (ap Some f.numbers.next, composed_none_due m))))) in
    let z = waits_run k site fit version s quiet (keep site fit version (world.Move.composes s buf c g composes) i) start in
    let fine = head_fine (u.ends s) p rest head (z.0.each s).0 in
    let answer : AboutFine (u.ends s).display.acts (u.ends s).line_to.delivered (spoken p.bytes) (world.About.answer_to k) =
    subst (AboutFine (u.ends s).display.acts (u.ends s).line_to.delivered (spoken p.bytes)) about fine.1 in
    let number : d.number ≡ number_of k = sym (ap number_in said) ∙ answer.0 in
    let a = answer_is u.hub p.bytes d ms (told, count) after said (λ y. number≢0 k (sym number ∙ y)) taken in
    let found : find_switch s u.hub.switches ≡ Some a.0 = ap (λ (n : ℕ). find_switch n u.hub.switches) (sym from) ∙ a.1 in
    let same : find_switch s after.switches ≡ Some (settled_by (number_of k) a.0) =
    (ap (λ (h : HubModel). find_switch s h.switches) (a.2 ∙ ap (answered_if d.number a.0 u.hub) from ∙ ap (λ (n : ℕ). answered_if n a.0 u.hub s) number)
    ∙ found_answered u.hub s (number_of k) a.0 found) in
    let clear = clear_at_last k a.0 (u.ends s) answer.1 (subst (λ o. Waits k o (u.ends s)) found z.1) in
    ap (λ o. at_enrolled o (λ n. Ok (has_outstanding n))) same ∙ ap Ok (clear_answer (settled_by (number_of k) a.0) clear)
