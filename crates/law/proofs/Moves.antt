-- Every move keeps what holds of the world.
use Rattle.std.proofs.Common.{◌≡◌, ℕ, suc, ◌^◌, ◌<◌, ◌≤◌, Bool, true, false, cond, List, [], ◌∷◌, map, length, take, ℤ, is_some, Some, None, Ok, Option, sym, refl, ap, ◌∙◌, subst, inl, le_refl, arith}
use Rattle.std.specs.Option.{option_map, option_or}
use Rattle.std.specs.List.{AllByRecursion}
use Rattle.std.proofs.lemmas.List.{length-map}
use Rattle.packet.specs.declared.message.Message.{Message}
use Rattle.packet.specs.declared.descriptor.Descriptor.{Descriptor}
use Rattle.packet.specs.Drafts.{WordsFit}
use Rattle.packet.specs.Words.{major}
use Rattle.store.specs.declared.actor_store.Half.{Half}
use Rattle.store.specs.declared.actor_store.Half.TheVariants.{Target}
use Rattle.store.specs.Meaning.{Known, put_answer}
use Rattle.model.specs.declared.mark.Mark.TheVariants.{Due}
use Rattle.model.specs.declared.told.Arrival.{Arrival}
use Rattle.model.specs.declared.told.Site.{Site}
use Rattle.model.specs.Composing.{Composition, brought_back, closed_slip, compose, composed, composed_bytes, records_for, words_for}
use Rattle.model.specs.Models.{HubModel, SwitchModel, change_switch, find_switch, is_number, lists_actor, touched, with_control}
use Rattle.model.specs.Opening.{due_item, enrol, new_switch}
use Rattle.model.specs.Settings.{set_control, with_value}
use Rattle.model.specs.Taking.{answered, take_payload}
use Rattle.law.specs.Values.{Any, Edits, note_all, slot, spoken}
use Rattle.law.specs.World as world
use Rattle.law.specs.World.{End, InTime, Move, Payload, Repeats, Run, World, accepts, answer_to, issued, messages_in, other_event, packet_now, payload_now, says, turn_of, with_end, with_hub, with_line_to, with_past}
use Rattle.law.proofs.Acts.{here_loses_payload, here_restarted, here_says, here_turned}
use Rattle.law.proofs.Answers.{head_fine, here_answered, kept_accepted, lines_accepted, settled_by, tells_hits}
use Rattle.law.proofs.Changes.{kept_control, kept_init, kept_report, kept_set}
use Rattle.law.proofs.Elements.{all_any, all_then, any_map}
use Rattle.law.proofs.Flights.{number_fits}
use Rattle.law.proofs.Granted.{Entry, Issued, compose_is, control_is, enrol_is, refused_leaves, sent_is, set_is, withheld_is}
use Rattle.law.proofs.Hearing.{Hits, hear_hits, hear_keeps, hear_known, hear_recalls}
use Rattle.law.proofs.Held.{Lawful, put_lawful, put_recalls}
use Rattle.law.proofs.Invariant.{Enrolled, Here, Holds, ItemFine, SiteFits, SwitchFine, number_in, number_of}
use Rattle.law.proofs.Items.{listed_entry}
use Rattle.law.proofs.Packets.{Fresh, here_composed, here_delivered, here_lost, here_sent, here_withheld}
use Rattle.law.proofs.Switches.{KeepsId, find_append, find_map, one_end, one_step, one_switch}
use Rattle.law.proofs.Taken.{all_listed, answer_is, answered_if, event_is, hear_all}
use Rattle.law.proofs.Written.{packet_says, told}

module _ (words : Site) where
  -- Enrolment.

  new_items : (st : Known) (e : End) (list : List ℕ) → AllByRecursion (λ a. a < 2 ^ 16) list → AllByRecursion (Entry st) list → AllByRecursion (ItemFine st (λ a. Due) e) (map due_item list)
  new_items st e [] f k = tt
  new_items st e (a ∷ rest) f k = (record { fits = (k.0.0, f.0); known = k.0.1; marked = refl; fine = tt }, new_items st e rest f.1 k.1)

  short_list : (list : List ℕ) → length list ≤ 64 → length (map due_item list) ≤ 64
  short_list list h = subst (λ (n : ℕ). n ≤ 64) (sym (length-map list due_item)) h

  here_new : (st : Known) (id : ℕ) (list : List ℕ) (e : End) → id < 2 ^ 16 → AllByRecursion (λ a. a < 2 ^ 16) list → length list ≤ 64 → AllByRecursion (Entry st) list
      → (b : Bool) (o : Option SwitchModel) → Here st o e → Here st (option_or o (cond b (Some (new_switch id list)) None)) e
  unfolding number_of
  here_new st id list e small f short k b (Some m) h = h
  here_new st id list e small f short k false None h = h
  here_new st id list e small f short k true None h = (
    h.0,
    record {
      fits = small;
      short = short_list list short;
      numbers = record { next = ap number_of (sym h.1); awaits = inl refl; slip = inl refl };
      marks = λ a. Due;
      items = new_items st e list f k;
    },
  )

  keep_enrols : (w : World) (id : ℕ) (list : List ℕ) (g : HubModel) → id < 2 ^ 16 → AllByRecursion (λ a. a < 2 ^ 16) list → enrol w.hub id list ≡ Ok (tt, g) → Holds words w → Holds words (with_hub g w)
  keep_enrols w id list g small f p i =
      let r = enrol_is w.hub id list g p in
      subst (λ h. Holds words (with_hub h w)) (sym r.0)
      (record {
        site = i.site;
        lawful = i.lawful;
        recalls = i.recalls;
        each = λ t. subst (λ o. Here w.hub.store o (w.ends t)) (sym (find_append t w.hub.switches (new_switch id list)))
            (here_new w.hub.store id list (w.ends t) small f r.1 r.2 _ (find_switch t w.hub.switches) (i.each t));
      })

  -- What changes the models of switches, their ends as they are.

  abbrev Each : (ℕ → End) → HubModel → Type 0
  Each ends h = (t : ℕ) → Enrolled h.store (find_switch t h.switches) (ends t)

  each_set : (ends : ℕ → End) (h : HubModel) (a : ℕ) (half : Half) (v : ℤ) → Each ends h → Each ends (with_value a half v h)
  each_set ends h a half v r t =
      subst (λ o. Enrolled (with_value a half v h).store o (ends t)) (sym (find_map (touched a) (λ m. refl) t h.switches)) (kept_set h.store (find_switch t h.switches) (ends t) a half v (r t))

  each_heard : (ends : ℕ → End) (s : ℕ) (ms : List Message) (h : HubModel) → Each ends h → Each ends (hear_all s ms h)
  each_heard ends s ms h r =
      hear_keeps (Each ends) (λ g a v e q. each_set ends g a Target v q)
      (λ g t f q. one_switch (λ n o. Enrolled g.store o (ends n)) t _ (λ m. refl) g.switches q (kept_report g.store (find_switch t g.switches) (ends t) f (q t)))
      (λ g t f q. one_switch (λ n o. Enrolled g.store o (ends n)) t _ (λ m. refl) g.switches q (kept_init g.store (find_switch t g.switches) (ends t) f (q t)))
      s ms h r

  keep_sets : (w : World) (a : ℕ) (half : Half) (v : ℤ) → put_answer w.hub.store a v ≡ Ok tt → Holds words w
      → Holds words (with_past ((slot half a, v) ∷ w.past) (with_hub (with_value a half v w.hub) w))
  keep_sets w a half v p i =
      record {
        site = i.site;
        lawful = put_lawful w.hub.store a half v i.lawful;
        recalls = put_recalls w.opened w.past w.hub.store a half v p i.recalls;
        each = λ t. ((i.each t).0, each_set w.ends w.hub a half v (λ n. (i.each n).1) t);
      }

  keep_control : (w : World) (s word : ℕ) (g : HubModel) → set_control w.hub s word ≡ Ok (tt, g) → Holds words w → Holds words (with_hub g w)
  keep_control w s word g p i =
      subst (λ h. Holds words (with_hub h w)) (sym (control_is w.hub s word g p))
      (record {
        site = i.site;
        lawful = i.lawful;
        recalls = i.recalls;
        each = λ t. (
          (i.each t).0,
          one_switch (λ n o. Enrolled w.hub.store o (w.ends n)) s (with_control word) (λ m. refl) w.hub.switches (λ n. (i.each n).1)
              (kept_control w.hub.store (find_switch s w.hub.switches) (w.ends s) word (i.each s).1) t,
        );
      })

  -- One switch's model and end change; its end alone.

  keep_one : (w : World) (s : ℕ) (f : SwitchModel → SwitchModel) → KeepsId f → (m : SwitchModel) → find_switch s w.hub.switches ≡ Some m → (e : End)
      → (Here w.hub.store (Some m) (w.ends s) → Here w.hub.store (Some (f m)) e)
      → Holds words w → Holds words (with_end s e (with_hub (change_switch s f w.hub) w))
  keep_one w s f k m q e g i =
      record {
        site = i.site;
        lawful = i.lawful;
        recalls = i.recalls;
        each = one_step (λ n. Here w.hub.store) s f k w.hub.switches w.ends e i.each
            (subst (λ o. Here w.hub.store (option_map f o) e) (sym q) (g (subst (λ o. Here w.hub.store o (w.ends s)) q (i.each s))));
      }

  keep_end : (w : World) (s : ℕ) (e : End) → ((o : Option SwitchModel) → Here w.hub.store o (w.ends s) → Here w.hub.store o e) → Holds words w → Holds words (with_end s e w)
  keep_end w s e g i =
      record {
        site = i.site;
        lawful = i.lawful;
        recalls = i.recalls;
        each = one_end (λ n. Here w.hub.store) s w.hub.switches w.ends e i.each (g (find_switch s w.hub.switches) (i.each s));
      }

  -- Payloads taken.

  hear_site : (s : ℕ) (ms : List Message) (h : HubModel) → (hear_all s ms h).site ≡ h.site
  hear_site s ms h = hear_keeps (λ g. g.site ≡ h.site) (λ g a v e q. q) (λ g t r q. q) (λ g t r q. q) s ms h refl

  hear_lawful : (s : ℕ) (ms : List Message) (h : HubModel) → Lawful h.store → Lawful (hear_all s ms h).store
  hear_lawful s ms h l = hear_keeps (λ g. Lawful g.store) (λ g a v e q. put_lawful g.store a Target v q) (λ g t r q. q) (λ g t r q. q) s ms h l

  known_actors : (st : Known) (m : SwitchModel) (e : End) → SwitchFine st m e → (a : ℕ) → lists_actor a m.items ≡ true → is_some (st a) ≡ true
  known_actors st m e f a l = let r = listed_entry a m.items f.items l in ap (λ (n : ℕ). is_some (st n)) (sym r.1) ∙ r.2.known

  keep_heard : (w : World) (s : ℕ) (p : Payload) (rest : List Payload) (d : Descriptor) (ms : List Message) (m : SwitchModel) → (w.ends s).line_from ≡ p ∷ rest
      → spoken p.bytes ≡ Some (d, ms) → find_switch s w.hub.switches ≡ Some m → all_listed m.items ms ≡ true
      → Holds words w → Holds words (with_end s (accepts p rest (w.ends s)) (with_past (note_all ms w.past) (with_hub (hear_all s ms w.hub) w)))
  keep_heard w s p rest d ms m q said fm al i =
      let h = hear_all s ms w.hub in
      let each' : (t : ℕ) → Here h.store (find_switch t h.switches) (w.ends t) = (λ t. ((i.each t).0, each_heard w.ends s ms w.hub (λ n. (i.each n).1) t)) in
      let f : SwitchFine w.hub.store m (w.ends s) = subst (λ o. Enrolled w.hub.store o (w.ends s)) fm (i.each s).1 in
      record {
        site = hear_site s ms w.hub ∙ i.site;
        lawful = hear_lawful s ms w.hub i.lawful;
        recalls = hear_recalls w.opened m.items w.past s ms w.hub (known_actors w.hub.store m (w.ends s) f) al i.recalls;
        each = one_end (λ n. Here h.store) s h.switches w.ends (accepts p rest (w.ends s)) each' (
          lines_accepted (w.ends s) p rest q (i.each s).0,
          kept_accepted h.store (find_switch s h.switches) (w.ends s) p rest
              (λ a x t k. hear_hits s a ms w.hub (sym (hear_known s ms w.hub a) ∙ k)
              (subst (λ o. Any (Hits a) (messages_in o)) said (tells_hits _ _ p (head_fine (w.ends s) p rest q (i.each s).0) a x t).1))
              (each' s).1,
        );
      }

  keep_event : (w : World) (s : ℕ) (p : Payload) (rest : List Payload) (d : Descriptor) (ms : List Message) (told : Arrival) (count : ℕ) (g : HubModel) → (w.ends s).line_from ≡ p ∷ rest
      → spoken p.bytes ≡ Some (d, ms) → d.switch ≡ s → d.number ≡ 0 → take_payload w.hub p.bytes ≡ Ok ((told, count), g)
      → Holds words w → Holds words (with_end s (accepts p rest (w.ends s)) (with_past (note_all ms w.past) (with_hub g w)))
  keep_event w s p rest d ms told count g q said from zero taken i =
      let r = event_is w.hub p.bytes d ms told count g said zero taken in
      subst (λ h. Holds words (with_end s (accepts p rest (w.ends s)) (with_past (note_all ms w.past) (with_hub h w)))) (sym (r.after ∙ ap (λ (n : ℕ). hear_all n ms w.hub) from))
      (keep_heard w s p rest d ms r.switch q said (ap (λ (n : ℕ). find_switch n w.hub.switches) (sym from) ∙ r.enrolled) r.listed i)

  keep_settled : (w : World) (s number : ℕ) (m : SwitchModel) (e : End) → find_switch s w.hub.switches ≡ Some m
      → (Here w.hub.store (Some m) (w.ends s) → Here w.hub.store (Some (settled_by number m)) e)
      → Holds words w → Holds words (with_end s e (with_hub (answered_if number m w.hub s) w))
  keep_settled w s number m e q g i = go (is_number m.numbers.awaited number) g
    where
      go : (b : Bool) → (Here w.hub.store (Some m) (w.ends s) → Here w.hub.store (Some (cond b (answered m) m)) e)
          → Holds words (with_end s e (with_hub (cond b (change_switch s answered w.hub) w.hub) w))
      go true g = keep_one w s answered (λ n. refl) m q e g i
      go false g =
          record {
            site = i.site;
            lawful = i.lawful;
            recalls = i.recalls;
            each = one_end (λ n. Here w.hub.store) s w.hub.switches w.ends e i.each
                (subst (λ o. Here w.hub.store o e) (sym q) (g (subst (λ o. Here w.hub.store o (w.ends s)) q (i.each s))));
          }

  keep_answer : (w : World) (s : ℕ) (p : Payload) (rest : List Payload) (d : Descriptor) (ms : List Message) (x : Arrival × ℕ) (g : HubModel) → (w.ends s).line_from ≡ p ∷ rest
      → spoken p.bytes ≡ Some (d, ms) → d.switch ≡ s → (d.number ≡ 0 → ⊥) → take_payload w.hub p.bytes ≡ Ok (x, g) → InTime (w.ends s).line_to.composed p.about
      → Holds words w → Holds words (with_end s (accepts p rest (w.ends s)) (with_hub g w))
  keep_answer w s p rest d ms x g q said from n taken time i =
      let r = answer_is w.hub p.bytes d ms x g said n taken in
      let number : number_in (spoken p.bytes) ≡ d.number = ap number_in said in
      subst (λ h. Holds words (with_end s (accepts p rest (w.ends s)) (with_hub h w))) (sym (r.2 ∙ ap (answered_if d.number r.0 w.hub) from))
      (keep_settled w s d.number r.0 (accepts p rest (w.ends s)) (ap (λ (n : ℕ). find_switch n w.hub.switches) (sym from) ∙ r.1)
      (λ h. subst (λ (k : ℕ). Here w.hub.store (Some (settled_by k r.0)) (accepts p rest (w.ends s))) number
      (here_answered w.hub.store r.0 (w.ends s) p rest q (λ z. n (sym number ∙ z)) time h)) i)

  -- Packets composed.

  module _ (fit : SiteFits words) (version : major words.version ≡ 2) where
    words_fit : (h : HubModel) (m : SwitchModel) (e : End) → h.site ≡ words → SwitchFine h.store m e → WordsFit (words_for h m)
    words_fit h m e s f =
        record {
          version = subst (λ (x : Site). x.version < 2 ^ 16) (sym s) fit.version;
          number = subst (λ (n : ℕ). n < 2 ^ 16) (sym f.numbers.next) (number_fits e.line_to.composed);
          project = subst (λ (x : Site). x.project < 2 ^ 16) (sym s) fit.project;
          firmware = subst (λ (x : Site). x.firmware < 2 ^ 16) (sym s) fit.firmware;
          switch = f.fits;
          design = subst (λ (x : Site). x.design < 2 ^ 16) (sym s) fit.design;
        }

    pub fresh_packet : (w : World) (s : ℕ) (buf : List ℕ) (c : Composition) (g : HubModel) → (r : Issued w.hub s buf c g) → Holds words w
        → Fresh w.hub.store r.switch (w.ends s) (packet_now w s (take c.size (composed_bytes w.hub s buf)))
    fresh_packet w s buf c g r i =
        let m = r.switch in
        let f : SwitchFine w.hub.store m (w.ends s) = subst (λ o. Enrolled w.hub.store o (w.ends s)) r.enrolled (i.each s).1 in
        let said : spoken (take c.size (composed_bytes w.hub s buf)) ≡ Some (words_for w.hub m, told (records_for w.hub.store m)) =
        ap spoken r.bytes ∙ packet_says w.hub m (words_fit w.hub m (w.ends s) i.site f) (ap (λ (x : Site). major x.version) i.site ∙ version) i.lawful
        (all_then (λ x q. q.fits) m.items f.items) f.short in
        record { index = refl; number = ap number_in said; says = ap messages_in said }

    keep_composes : (w : World) (s : ℕ) (buf : List ℕ) (c : Composition) (g : HubModel) → compose w.hub s buf ≡ Ok (c, g) → Holds words w
        → Holds words (with_end s (with_line_to (issued (packet_now w s (take c.size (composed_bytes w.hub s buf))) (w.ends s).line_to) (w.ends s)) (with_hub g w))
    keep_composes w s buf c g p i =
        let r = compose_is w.hub s buf c g p in
        subst (λ h. Holds words (with_end s (with_line_to (issued (packet_now w s (take c.size (composed_bytes w.hub s buf))) (w.ends s).line_to) (w.ends s)) (with_hub h w))) (sym r.after)
        (keep_one w s composed (λ m. refl) r.switch r.enrolled _ (here_composed w.hub.store r.switch (w.ends s) _ (fresh_packet w s buf c g r i)) i)

    -- an answer that a switch sends
    keep_answers : (w : World) (s k : ℕ) (bytes : List ℕ) (d : Descriptor) (ms : List Message) → spoken bytes ≡ Some (d, ms) → Any (Repeats k d ms) (w.ends s).line_to.delivered
        → Holds words w → Holds words (with_end s (says (payload_now w s bytes (answer_to k)) (w.ends s)) w)
    keep_answers w s k bytes d ms said x i =
        let a = all_any (w.ends s).line_to.delivered (i.each s).0.behind x in
        let number : number_in (spoken bytes) ≡ number_of k =
        ap number_in said ∙ a.2.1.2 ∙ sym (ap number_in a.2.1.1) ∙ a.1.1 ∙ ap number_of a.2.0 in
        keep_end w s _ (λ o. here_says w.hub.store o (w.ends s) (payload_now w s bytes (answer_to k)) (le_refl (w.ends s).display.acts, (number, any_map (λ p y. y.0) _ x))) i

    pub keep : {w u : World} → Move w u → Holds words w → Holds words u
    keep {w} (world.Move.enrols id list g small f p) i = keep_enrols w id list g small f p i
    keep {w} (world.Move.sets half a v g p) i =
        let r = set_is w.hub a half v g p in
        subst (λ h. Holds words (with_past ((slot half a, v) ∷ w.past) (with_hub h w))) (sym r.1) (keep_sets w a half v r.0 i)
    keep {w} (world.Move.sets_control id word g p) i = keep_control w id word g p i
    keep {w} (world.Move.takes_event s p rest d ms told count g q said from zero taken) i = keep_event w s p rest d ms told count g q said from zero taken i
    keep {w} (world.Move.takes_answer s p rest d ms told count g q said from n taken time) i = keep_answer w s p rest d ms (told, count) g q said from n taken time i
    keep {w} (world.Move.composes s buf c g p) i = keep_composes w s buf c g p i
    keep {w} (world.Move.sends s number g p) i =
        let r = sent_is w.hub s number g p in
        subst (λ h. Holds words (with_end s (with_line_to (world.joined (w.ends s).line_to) (w.ends s)) (with_hub h w))) (sym r.2)
        (keep_one w s closed_slip (λ m. refl) r.0 r.1 _ (here_sent w.hub.store r.0 (w.ends s)) i)
    keep {w} (world.Move.withholds s number g p) i =
        let r = withheld_is w.hub s number g p in
        subst (λ h. Holds words (with_end s (with_line_to (world.discarded (w.ends s).line_to) (w.ends s)) (with_hub h w))) (sym r.2)
        (keep_one w s brought_back (λ m. refl) r.0 r.1 _ (here_withheld w.hub.store r.0 (w.ends s)) i)
    keep {w} (world.Move.refuses c x) i = subst (λ h. Holds words (with_hub h w)) (sym (refused_leaves w.hub c x))
        (record { site = i.site; lawful = i.lawful; recalls = i.recalls; each = i.each })
    keep {w} (world.Move.arrives s p rest q) i = keep_end w s _ (λ o. here_delivered w.hub.store o (w.ends s) p rest q) i
    keep {w} (world.Move.loses_packet s p rest q) i = keep_end w s _ (λ o. here_lost w.hub.store o (w.ends s) p rest q) i
    keep {w} (world.Move.loses_payload s p rest q) i = keep_end w s _ (λ o. here_loses_payload w.hub.store o (w.ends s) p rest q) i
    keep {w} (world.Move.answers s k bytes d ms said x) i = keep_answers w s k bytes d ms said x i
    keep {w} (world.Move.turns s a v bytes d ms l said z x) i =
        keep_end w s _
        (λ o. here_turned w.hub.store o (w.ends s) a v (payload_now w s bytes (turn_of (w.ends s).display.acts a)) (
          omega arith,
          (
            le_refl (suc (w.ends s).display.acts),
            ap number_in said ∙ z,
            subst (λ y. Any (Edits a) (messages_in y)) (sym said) (any_map (λ y e. subst (Edits a) (sym e) (refl, l)) ms x),
          ),
        )) i
    keep {w} (world.Move.restarts s) i = keep_end w s _ (λ o. here_restarted w.hub.store o (w.ends s)) i
    keep {w} (world.Move.reports s bytes d ms said z) i =
        keep_end w s _ (λ o. here_says w.hub.store o (w.ends s) (payload_now w s bytes other_event) (le_refl (w.ends s).display.acts, ap number_in said ∙ z)) i

    pub keep_run : {w u : World} → Run w u → Holds words w → Holds words u
    keep_run world.Run.start i = i
    keep_run (world.Run.next r m) i = keep m (keep_run r i)
