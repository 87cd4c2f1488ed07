-- The runs of the statement, move by move; what Settling and Dealing say of theirs is drawn from the law.
use Rattle.std.proofs.Common.{◌≡◌, ℕ, suc, true, false, List, [], ◌∷◌, replicate, pos, Some, Ok, sym, refl, ap, ◌∙◌, subst, inl, ⊎_elim, arith, lit<}
use Rattle.std.proofs.lemmas.Bool.{true≢false}
use Rattle.std.proofs.lemmas.Option.{same_Some}
use Rattle.packet.specs.declared.message.Message.{Message}
use Rattle.packet.specs.declared.message.Record.{Record}
use Rattle.packet.specs.declared.message.Record.TheVariants.{Control, EditValue, RealValue, State}
use Rattle.packet.specs.declared.descriptor.Descriptor.{Descriptor}
use Rattle.packet.specs.Messages.{messages_of}
use Rattle.packet.specs.Packets.{packet_bytes}
use Rattle.store.specs.declared.actor_store.Half.TheVariants.{Actual, Target}
use Rattle.model.specs.Composing.{Composition, compose, item_records, outstanding_actors}
use Rattle.model.specs.Models.{HubModel, SwitchModel, lists_actor}
use Rattle.model.specs.Questions.{outstanding_at}
use Rattle.model.specs.Taking.{first_unlisted, heard}
use Rattle.law.specs.Values.{last_accepted, note_all, show_all}
use Rattle.law.specs.World as world
use Rattle.law.specs.World.{Run, World, bring_all}
use Rattle.law.specs.Law as law
use Rattle.law.specs.Law.{Dealt, Lists, Quietly, TruthfulSwitches, after_compose, opening}
use Rattle.law.specs.Runs.{AnswerLostOutstanding, CrossedOutstanding, CrossedSettled, DealtIn, DealtInOneAndInTwo, Happening, LostSettled, PacketLostOutstanding, Reached, RestartedOutstanding, SettlingMet, SharedOutstanding, SharedSettled, StaleOutstanding, ToldAndSettled, ToldBesideOthers, ToldQuietly, TurnedExcused, WithheldOutstanding, WithheldSettled, beside_others, edited, edited_twice, enrols, answers, arrives, sends, fives, site, target_set, two_enrolled}
use Rattle.law.proofs.Whole.{truthful_switches}

-- what is at the head of a packet of switch s with this PackageID
abbrev words : ℕ → ℕ → Descriptor
words s number = record { version = 0x0201; number = number; project = 0x1234; firmware = 0; switch = s; design = 5 }

-- what switches that list actors 1, and 2 and 1, answer to their first packet, with this target of actor 1
abbrev first_of_seven : ℕ → List Record
first_of_seven v = RealValue 1 (pos 5) ∷ EditValue 1 (pos v) ∷ Control 0x130 ∷ []

abbrev first_of_eight : List Record
first_of_eight = RealValue 2 (pos 5) ∷ EditValue 2 (pos 5) ∷ RealValue 1 (pos 5) ∷ EditValue 1 (pos 5) ∷ Control 0x130 ∷ []

suc≢0 : (n : ℕ) → ◌≡◌ {A = ℕ} (suc n) 0 → ⊥
suc≢0 n e = omega arith

-- the moves so far of runs that begin alike

first_set : Reached target_set (λ w. Unit {0})
first_set = (
  _,
  world.Run.next (world.Run.next world.Run.start (world.Move.enrols 7 (1 ∷ []) _ (lit< tt) (lit< tt, tt) refl)) (world.Move.sets Target 1 (pos 220) _ refl),
  refl,
  tt,
)

pub told_and_settled : ToldAndSettled
unfolding messages_of item_records outstanding_actors last_accepted show_all bring_all first_set
told_and_settled = (
  _,
  world.Run.next (world.Run.next (world.Run.next (world.Run.next (world.Run.next first_set.1
      (world.Move.composes 7 (replicate 36 0) _ _ refl))
      (world.Move.sends 7 1 _ refl))
      (world.Move.arrives 7 _ [] refl))
      (world.Move.answers 7 0 (packet_bytes (words 7 1) (first_of_seven 220)) _ _ refl (inl (refl, (_, refl, refl)))))
      (world.Move.takes_answer 7 _ [] _ _ _ _ _ refl refl refl (suc≢0 0) refl (lit< tt)),
  refl,
  (refl, (refl, refl), refl),
)

pub restarted_outstanding : RestartedOutstanding
unfolding messages_of item_records outstanding_actors show_all bring_all heard first_unlisted note_all first_set told_and_settled
restarted_outstanding = (
  _,
  world.Run.next (world.Run.next (world.Run.next told_and_settled.1
      (world.Move.restarts 7))
      (world.Move.reports 7 (packet_bytes (words 7 0) (State 64 ∷ [])) _ _ refl refl))
      (world.Move.takes_event 7 _ [] _ _ _ _ _ refl refl refl refl refl),
  refl,
  ((refl, refl), (_, refl, refl)),
)

abbrev IsAnswer : world.About → Type 0
IsAnswer (world.About.answer_to k) = Unit {0}
IsAnswer (world.About.turn_of j a) = ⊥
IsAnswer world.About.other_event = ⊥

answer≢turn : (k j a : ℕ) → world.About.answer_to k ≡ world.About.turn_of j a → ⊥
answer≢turn k j a e = subst IsAnswer e tt

pub turned_excused : TurnedExcused
unfolding messages_of item_records outstanding_actors show_all bring_all first_set told_and_settled
turned_excused = (
  _,
  world.Run.next told_and_settled.1 (world.Move.turns 7 1 (pos 190) (packet_bytes (words 7 0) (EditValue 1 (pos 190) ∷ [])) _ _ refl refl refl (inl refl)),
  refl,
  (refl, refl, (_, refl, λ t. ⊎_elim (answer≢turn 0 0 1) (λ z. z) t)),
)

pub crossed_outstanding : CrossedOutstanding
unfolding messages_of item_records outstanding_actors show_all bring_all heard first_unlisted note_all
crossed_outstanding = (
  _,
  world.Run.next (world.Run.next (world.Run.next (world.Run.next (world.Run.next (world.Run.next (world.Run.next (world.Run.next (world.Run.next world.Run.start
      (world.Move.enrols 7 (1 ∷ []) _ (lit< tt) (lit< tt, tt) refl))
      (world.Move.turns 7 1 (pos 190) (packet_bytes (words 7 0) (EditValue 1 (pos 190) ∷ [])) _ _ refl refl refl (inl refl)))
      (world.Move.sets Target 1 (pos 230) _ refl))
      (world.Move.composes 7 (replicate 36 0) _ _ refl))
      (world.Move.sends 7 1 _ refl))
      (world.Move.arrives 7 _ [] refl))
      (world.Move.takes_event 7 _ [] _ _ _ _ _ refl refl refl refl refl))
      (world.Move.answers 7 0 (packet_bytes (words 7 1) (first_of_seven 230)) _ _ refl (inl (refl, (_, refl, refl)))))
      (world.Move.takes_answer 7 _ [] _ _ _ _ _ refl refl refl (suc≢0 0) refl (lit< tt)),
  refl,
  (refl, refl, (_, refl, refl)),
)

pub crossed_settled : CrossedSettled
unfolding messages_of item_records outstanding_actors last_accepted show_all bring_all heard first_unlisted note_all crossed_outstanding
crossed_settled = (
  _,
  world.Run.next (world.Run.next (world.Run.next (world.Run.next (world.Run.next crossed_outstanding.1
      (world.Move.composes 7 (replicate 28 0) _ _ refl))
      (world.Move.sends 7 2 _ refl))
      (world.Move.arrives 7 _ [] refl))
      (world.Move.answers 7 1 (packet_bytes (words 7 2) (RealValue 1 (pos 5) ∷ EditValue 1 (pos 190) ∷ [])) _ _ refl (inl (refl, (_, refl, refl)))))
      (world.Move.takes_answer 7 _ [] _ _ _ _ _ refl refl refl (suc≢0 1) refl (lit< tt)),
  refl,
  (refl, (refl, refl), refl),
)

pub packet_lost_outstanding : PacketLostOutstanding
unfolding item_records outstanding_actors first_set
packet_lost_outstanding = (
  _,
  world.Run.next (world.Run.next (world.Run.next first_set.1
      (world.Move.composes 7 (replicate 36 0) _ _ refl))
      (world.Move.sends 7 1 _ refl))
      (world.Move.loses_packet 7 _ [] refl),
  refl,
  ((refl, refl), (_, refl, refl)),
)

pub answer_lost_outstanding : AnswerLostOutstanding
unfolding messages_of item_records outstanding_actors last_accepted show_all bring_all first_set packet_lost_outstanding
answer_lost_outstanding = (
  _,
  world.Run.next (world.Run.next (world.Run.next (world.Run.next (world.Run.next packet_lost_outstanding.1
      (world.Move.composes 7 (replicate 36 0) _ _ refl))
      (world.Move.sends 7 2 _ refl))
      (world.Move.arrives 7 _ [] refl))
      (world.Move.answers 7 1 (packet_bytes (words 7 2) (first_of_seven 220)) _ _ refl (inl (refl, (_, refl, refl)))))
      (world.Move.loses_payload 7 _ [] refl),
  refl,
  (refl, (refl, refl), (_, refl, refl)),
)

pub lost_settled : LostSettled
unfolding messages_of item_records outstanding_actors last_accepted show_all bring_all first_set packet_lost_outstanding answer_lost_outstanding
lost_settled = (
  _,
  world.Run.next (world.Run.next (world.Run.next (world.Run.next (world.Run.next answer_lost_outstanding.1
      (world.Move.composes 7 (replicate 36 0) _ _ refl))
      (world.Move.sends 7 3 _ refl))
      (world.Move.arrives 7 _ [] refl))
      (world.Move.answers 7 2 (packet_bytes (words 7 3) (first_of_seven 220)) _ _ refl (inl (refl, (_, refl, refl)))))
      (world.Move.takes_answer 7 _ [] _ _ _ _ _ refl refl refl (suc≢0 2) refl (lit< tt)),
  refl,
  (refl, (refl, refl), refl),
)

pub withheld_outstanding : WithheldOutstanding
unfolding item_records outstanding_actors first_set
withheld_outstanding = (
  _,
  world.Run.next (world.Run.next first_set.1
      (world.Move.composes 7 (replicate 36 0) _ _ refl))
      (world.Move.withholds 7 1 _ refl),
  refl,
  (refl, (refl, refl), (_, refl, refl)),
)

pub withheld_settled : WithheldSettled
unfolding messages_of item_records outstanding_actors last_accepted show_all bring_all first_set withheld_outstanding
withheld_settled = (
  _,
  world.Run.next (world.Run.next (world.Run.next (world.Run.next (world.Run.next withheld_outstanding.1
      (world.Move.composes 7 (replicate 36 0) _ _ refl))
      (world.Move.sends 7 2 _ refl))
      (world.Move.arrives 7 _ [] refl))
      (world.Move.answers 7 1 (packet_bytes (words 7 2) (first_of_seven 220)) _ _ refl (inl (refl, (_, refl, refl)))))
      (world.Move.takes_answer 7 _ [] _ _ _ _ _ refl refl refl (suc≢0 1) refl (lit< tt)),
  refl,
  (refl, (refl, refl), refl),
)

pub stale_outstanding : StaleOutstanding
unfolding messages_of item_records outstanding_actors show_all bring_all first_set
stale_outstanding = (
  _,
  world.Run.next (world.Run.next (world.Run.next (world.Run.next (world.Run.next (world.Run.next (world.Run.next (world.Run.next (world.Run.next first_set.1
      (world.Move.composes 7 (replicate 36 0) _ _ refl))
      (world.Move.sends 7 1 _ refl))
      (world.Move.arrives 7 _ [] refl))
      (world.Move.answers 7 0 (packet_bytes (words 7 1) (first_of_seven 220)) _ _ refl (inl (refl, (_, refl, refl)))))
      (world.Move.sets Target 1 (pos 230) _ refl))
      (world.Move.composes 7 (replicate 36 0) _ _ refl))
      (world.Move.sends 7 2 _ refl))
      (world.Move.loses_packet 7 _ [] refl))
      (world.Move.takes_answer 7 _ [] _ _ _ _ _ refl refl refl (suc≢0 0) refl (lit< tt)),
  refl,
  (refl, (_, refl, refl)),
)

pub shared_outstanding : SharedOutstanding
unfolding messages_of item_records outstanding_actors show_all bring_all heard first_unlisted note_all
shared_outstanding = (
  _,
  world.Run.next (world.Run.next (world.Run.next (world.Run.next (world.Run.next (world.Run.next (world.Run.next (world.Run.next (world.Run.next (world.Run.next
      (world.Run.next (world.Run.next (world.Run.next (world.Run.next world.Run.start
      (world.Move.enrols 7 (1 ∷ []) _ (lit< tt) (lit< tt, tt) refl))
      (world.Move.enrols 8 (2 ∷ 1 ∷ []) _ (lit< tt) (lit< tt, (lit< tt, tt)) refl))
      (world.Move.composes 7 (replicate 36 0) _ _ refl))
      (world.Move.sends 7 1 _ refl))
      (world.Move.arrives 7 _ [] refl))
      (world.Move.answers 7 0 (packet_bytes (words 7 1) (first_of_seven 5)) _ _ refl (inl (refl, (_, refl, refl)))))
      (world.Move.takes_answer 7 _ [] _ _ _ _ _ refl refl refl (suc≢0 0) refl (lit< tt)))
      (world.Move.composes 8 (replicate 48 0) _ _ refl))
      (world.Move.sends 8 1 _ refl))
      (world.Move.arrives 8 _ [] refl))
      (world.Move.answers 8 0 (packet_bytes (words 8 1) first_of_eight) _ _ refl (inl (refl, (_, refl, refl)))))
      (world.Move.takes_answer 8 _ [] _ _ _ _ _ refl refl refl (suc≢0 0) refl (lit< tt)))
      (world.Move.turns 7 1 (pos 190) (packet_bytes (words 7 0) (EditValue 1 (pos 190) ∷ [])) _ _ refl refl refl (inl refl)))
      (world.Move.takes_event 7 _ [] _ _ _ _ _ refl refl refl refl refl),
  refl,
  (refl, refl, (_, refl, refl), (_, refl, refl)),
)

pub shared_settled : SharedSettled
unfolding messages_of item_records outstanding_actors last_accepted show_all bring_all heard first_unlisted note_all shared_outstanding
shared_settled = (
  _,
  world.Run.next (world.Run.next (world.Run.next (world.Run.next (world.Run.next (world.Run.next (world.Run.next (world.Run.next (world.Run.next (world.Run.next shared_outstanding.1
      (world.Move.composes 7 (replicate 28 0) _ _ refl))
      (world.Move.sends 7 2 _ refl))
      (world.Move.arrives 7 _ [] refl))
      (world.Move.answers 7 1 (packet_bytes (words 7 2) (RealValue 1 (pos 5) ∷ EditValue 1 (pos 190) ∷ [])) _ _ refl (inl (refl, (_, refl, refl)))))
      (world.Move.takes_answer 7 _ [] _ _ _ _ _ refl refl refl (suc≢0 1) refl (lit< tt)))
      (world.Move.composes 8 (replicate 28 0) _ _ refl))
      (world.Move.sends 8 2 _ refl))
      (world.Move.arrives 8 _ [] refl))
      (world.Move.answers 8 1 (packet_bytes (words 8 2) (RealValue 1 (pos 5) ∷ EditValue 1 (pos 190) ∷ [])) _ _ refl (inl (refl, (_, refl, refl)))))
      (world.Move.takes_answer 8 _ [] _ _ _ _ _ refl refl refl (suc≢0 1) refl (lit< tt)),
  refl,
  ((refl, (refl, refl), refl), (refl, (refl, refl), refl)),
)

-- The law of this hub.
the_law : TruthfulSwitches site fives
the_law = truthful_switches site fives (record { version = lit< tt; project = lit< tt; firmware = lit< tt; design = lit< tt }) refl (λ a. refl)

-- Settling, applied to a quiet stretch.
settled : (s : ℕ) (before stretch : List Happening) (x : SettlingMet s before stretch) → outstanding_at x.after s ≡ Ok false
unfolding TruthfulSwitches
settled s before stretch x =
    the_law.2 x.first x.run s x.buf x.composition x.composed x.composes x.last x.quiet x.answer x.rest x.words x.messages x.head x.about x.said x.from x.arrival x.count x.after x.taken

told_stretch : SettlingMet 7 target_set (sends 7 1 ∷ arrives 7 ∷ answers 7 0 ∷ [])
unfolding messages_of item_records outstanding_actors show_all bring_all first_set
told_stretch = record {
  first = first_set.0;
  run = first_set.1;
  begun = refl;
  buf = replicate 36 0;
  composition = _;
  composed = _;
  composes = refl;
  last = _;
  quiet =
      law.Quietly.then (law.Quietly.then (law.Quietly.then law.Quietly.stay
      (world.Move.sends 7 1 _ refl) tt)
      (world.Move.arrives 7 _ [] refl) tt)
      (world.Move.answers 7 0 (packet_bytes (words 7 1) (first_of_seven 220)) _ _ refl (inl (refl, (_, refl, refl)))) tt;
  went = refl;
  answer = _;
  rest = [];
  words = _;
  messages = _;
  head = refl;
  about = refl;
  said = refl;
  from = refl;
  arrival = _;
  count = _;
  after = _;
  taken = refl;
}

pub told_quietly : ToldQuietly
told_quietly = (told_stretch, settled 7 _ _ told_stretch)

-- an actor that a switch does not list
unlisted : (m n : SwitchModel) (a : ℕ) → Some m ≡ Some n → lists_actor a m.items ≡ false → lists_actor a n.items ≡ true → ⊥
unlisted m n a e lacks lists = true≢false (sym lists ∙ ap (λ (x : SwitchModel). lists_actor a x.items) (sym (same_Some m n e)) ∙ lacks)

two_joined : Reached two_enrolled (λ w. Unit {0})
two_joined = (
  _,
  world.Run.next (world.Run.next world.Run.start
      (world.Move.enrols 7 (1 ∷ []) _ (lit< tt) (lit< tt, tt) refl))
      (world.Move.enrols 8 (2 ∷ 1 ∷ []) _ (lit< tt) (lit< tt, (lit< tt, tt)) refl),
  refl,
  tt,
)

-- the hub's own calls of the stretch
calls_beside : (c : Composition) × (g : HubModel) × (compose two_joined.0.hub 7 (replicate 36 0) ≡ Ok (c, g)) × (u : World) × Quietly 7 (after_compose two_joined.0 7 (replicate 36 0) c g) u
unfolding item_records outstanding_actors two_joined
calls_beside = (
  _,
  _,
  refl,
  _,
  law.Quietly.then (law.Quietly.then (law.Quietly.then (law.Quietly.then (law.Quietly.then (law.Quietly.then law.Quietly.stay
      (world.Move.refuses (world.Call.composing 7 []) (_, refl)) tt)
      (world.Move.sends 7 1 _ refl) tt)
      (world.Move.enrols 9 (2 ∷ []) _ (lit< tt) (lit< tt, tt) refl) tt)
      (world.Move.sets Actual 2 (pos 6) _ refl) (λ l. unlisted _ l.0 2 l.1 refl l.2))
      (world.Move.sets_control 8 0x100 _ refl) (λ e. omega arith))
      (world.Move.composes 8 (replicate 48 0) _ _ refl) (λ e. omega arith),
)

-- and the events that it takes
events_beside : (u : World) × Quietly 7 (after_compose two_joined.0 7 (replicate 36 0) calls_beside.0 calls_beside.1) u
unfolding messages_of item_records outstanding_actors heard first_unlisted note_all two_joined calls_beside
events_beside = (
  _,
  law.Quietly.then (law.Quietly.then (law.Quietly.then (law.Quietly.then calls_beside.4
      (world.Move.turns 8 2 (pos 190) (packet_bytes (words 8 0) (EditValue 2 (pos 190) ∷ [])) _ _ refl refl refl (inl refl)) tt)
      (world.Move.takes_event 8 _ [] _ _ _ _ _ refl refl refl refl refl)
      (λ a l e. ⊎_elim (λ q. unlisted _ l.0 2 l.1 refl (subst (λ (b : ℕ). lists_actor b l.0.items ≡ true) (sym q.0) l.2)) (λ z. z) e, λ e i. ⊎_elim (λ z. z) (λ z. z) i))
      (world.Move.reports 7 (packet_bytes (words 7 0) (State 0 ∷ [])) _ _ refl refl) tt)
      (world.Move.takes_event 7 _ [] _ _ _ _ _ refl refl refl refl refl)
      (λ a l e. ⊎_elim (λ z. z) (λ z. z) e, λ e i. ⊎_elim (λ q. true≢false (sym q)) (λ z. z) i),
)

stretch_beside_others : SettlingMet 7 two_enrolled beside_others
unfolding messages_of item_records outstanding_actors show_all bring_all heard first_unlisted note_all two_joined calls_beside events_beside
stretch_beside_others = record {
  first = two_joined.0;
  run = two_joined.1;
  begun = refl;
  buf = replicate 36 0;
  composition = calls_beside.0;
  composed = calls_beside.1;
  composes = calls_beside.2;
  last = _;
  quiet =
      law.Quietly.then (law.Quietly.then events_beside.1
      (world.Move.arrives 7 _ [] refl) tt)
      (world.Move.answers 7 0 (packet_bytes (words 7 1) (first_of_seven 5)) _ _ refl (inl (refl, (_, refl, refl)))) tt;
  went = refl;
  answer = _;
  rest = [];
  words = _;
  messages = _;
  head = refl;
  about = refl;
  said = refl;
  from = refl;
  arrival = _;
  count = _;
  after = _;
  taken = refl;
}

pub told_beside_others : ToldBesideOthers
told_beside_others = (stretch_beside_others, settled 7 _ _ stretch_beside_others)

-- Dealing, applied to two EditValues.

seven_enrolled : Reached (enrols 7 (1 ∷ []) ∷ []) (λ w. Unit {0})
seven_enrolled = (_, world.Run.next world.Run.start (world.Move.enrols 7 (1 ∷ []) _ (lit< tt) (lit< tt, tt) refl), refl, tt)

-- what they leave, dealt in these packets
abbrev Leaves : List (List Message) → Type 0
Leaves parts = (g : HubModel) × (n : ℕ) × DealtIn parts seven_enrolled.0.hub g n × (n ≡ 2) × (g.store 1 ≡ Some (pos 5, pos 200))

in_one : Leaves (edited_twice ∷ [])
unfolding messages_of heard first_unlisted seven_enrolled
in_one = (
  _,
  _,
  (law.Dealt.packet law.Dealt.nothing (packet_bytes (words 7 0) (EditValue 1 (pos 190) ∷ EditValue 1 (pos 200) ∷ [])) _ edited_twice _ _ _ refl refl refl refl, refl),
  refl,
  refl,
)

in_two : Leaves ((edited (pos 190) ∷ []) ∷ (edited (pos 200) ∷ []) ∷ [])
unfolding messages_of heard first_unlisted seven_enrolled
in_two = (
  _,
  _,
  (
    law.Dealt.packet (law.Dealt.packet law.Dealt.nothing
        (packet_bytes (words 7 0) (EditValue 1 (pos 190) ∷ [])) _ (edited (pos 190) ∷ []) _ _ _ refl refl refl refl)
        (packet_bytes (words 7 0) (EditValue 1 (pos 200) ∷ [])) _ (edited (pos 200) ∷ []) _ _ _ refl refl refl refl,
    refl,
  ),
  refl,
  refl,
)

pub dealt_in_one_and_in_two : DealtInOneAndInTwo
unfolding TruthfulSwitches
dealt_in_one_and_in_two =
    let h = seven_enrolled.0.hub in
    let alike = the_law.1 7 h h refl edited_twice in_one.0 in_two.0 in_one.1 in_two.1 in_one.2.0 in_two.2.0 in
    (seven_enrolled.0, seven_enrolled.1, seven_enrolled.2, (in_one.0, in_two.0, in_one.1, in_two.1, in_one.2, in_two.2, alike.0, alike.1, in_two.3, in_two.4))
