-- Runs by their moves: each is shown to be one, and what its switches show and its hub reports at the end. They meet the law's premises.
use Rattle.std.specs.Prelude.{◌≡◌, ℕ, suc, false, List, [], ◌∷◌, ◌++◌, ℤ, pos, Some, None, Ok}
use Rattle.packet.specs.declared.message.Message.{Message}
use Rattle.packet.specs.declared.message.Message.TheVariants.{Known}
use Rattle.packet.specs.declared.message.Record.TheVariants.{EditValue, State}
use Rattle.packet.specs.declared.descriptor.Descriptor.{Descriptor}
use Rattle.store.specs.declared.actor_store.Half.{Half}
use Rattle.store.specs.declared.actor_store.Half.TheVariants.{Actual, Target}
use Rattle.store.specs.Meaning as store
use Rattle.model.specs.declared.told.Arrival.{Arrival}
use Rattle.model.specs.declared.told.Arrival.TheVariants.{Answer, Stale}
use Rattle.model.specs.declared.told.Site.{Site}
use Rattle.model.specs.Composing.{Composition, compose}
use Rattle.model.specs.Models.{HubModel}
use Rattle.model.specs.Questions.{outstanding_at}
use Rattle.model.specs.Taking.{take_payload}
use Rattle.law.specs.Values.{slot, spoken}
use Rattle.law.specs.World as world
use Rattle.law.specs.World.{Call, Move, Payload, Run, World, answer_to, composing}
use Rattle.law.specs.Law as law
use Rattle.law.specs.Law.{Dealt, Excused, Quietly, ReportedOutstanding, Shows, after_compose, opening}

-- the hub of these runs knows every actor, with both values 5
abbrev pub site : Site
site = record { version = 0x0201; project = 0x1234; firmware = 0; design = 5 }

abbrev pub fives : store.Known
fives a = Some (pos 5, pos 5)

-- What happens in a move: the call or the deed, by its switch, with what matters of it.
pub data Happening : Type 0 where
  enrols : ℕ → List ℕ → Happening
  sets : Half → ℕ → ℤ → Happening
  sets_control : ℕ → ℕ → Happening
  takes_event : ℕ → List Message → Happening
  takes_answer : ℕ → Arrival → Happening
  composes : ℕ → Happening
  sends withholds : ℕ → ℕ → Happening
  refuses : Call → Happening
  arrives loses_packet loses_payload : ℕ → Happening
  answers : ℕ → ℕ → Happening
  turns : ℕ → ℕ → ℤ → Happening
  restarts : ℕ → Happening
  reports : ℕ → List Message → Happening

abbrev pub happening : {w u : World} → Move w u → Happening
happening (world.Move.enrols id list g _ _ _) = enrols id list
happening (world.Move.sets half a v g _) = sets half a v
happening (world.Move.sets_control id word g _) = sets_control id word
happening (world.Move.takes_event s p rest d ms told count g _ _ _ _ _) = takes_event s ms
happening (world.Move.takes_answer s p rest d ms told count g _ _ _ _ _ _) = takes_answer s told
happening (world.Move.composes s buf c g _) = composes s
happening (world.Move.sends s number g _) = sends s number
happening (world.Move.withholds s number g _) = withholds s number
happening (world.Move.refuses c _) = refuses c
happening (world.Move.arrives s p rest _) = arrives s
happening (world.Move.loses_packet s p rest _) = loses_packet s
happening (world.Move.loses_payload s p rest _) = loses_payload s
happening (world.Move.answers s k bytes d ms _ _) = answers s k
happening (world.Move.turns s a v bytes d ms _ _ _ _) = turns s a v
happening (world.Move.restarts s) = restarts s
happening (world.Move.reports s bytes d ms _ _) = reports s ms

-- what happens in a run, in order, and in a quiet stretch
abbrev pub happenings : {w u : World} → Run w u → List Happening
happenings world.Run.start = []
happenings (world.Run.next r x) = happenings r ++ (happening x ∷ [])

abbrev pub quiet_happenings : {s : ℕ} {w u : World} → Quietly s w u → List Happening
quiet_happenings law.Quietly.stay = []
quiet_happenings (law.Quietly.then r x _) = quiet_happenings r ++ (happening x ∷ [])

-- a run of these moves from the opening, and what holds at its end
abbrev pub Reached : List Happening → (World → Type 0) → Type 0
Reached moves P = (w : World) × (r : Run (opening site fives) w) × (happenings r ≡ moves) × P w

-- switch s shows v as the target of actor a
abbrev pub ShowsTarget : World → ℕ → ℕ → ℤ → Type 0
ShowsTarget w s a v = (w.ends s).display.shown (slot Target a) ≡ Some v

-- it shows neither value
abbrev pub ShowsNothing : World → ℕ → ℕ → Type 0
ShowsNothing w s a = ((w.ends s).display.shown (slot Actual a) ≡ None) × ((w.ends s).display.shown (slot Target a) ≡ None)

-- it shows v, both values are those last accepted, and nothing is outstanding
abbrev pub UpToDate : World → ℕ → ℕ → ℤ → Type 0
UpToDate w s a v = ShowsTarget w s a v × Shows w s a × (outstanding_at w.hub s ≡ Ok false)

-- the packet of this index composed for switch s, sent, delivered and answered, its answer taken
abbrev pub exchange : ℕ → ℕ → List Happening
exchange s k = composes s ∷ sends s (suc k) ∷ arrives s ∷ answers s k ∷ takes_answer s Answer ∷ []

-- A new target is told: it is shown, and nothing is outstanding.

abbrev pub target_set : List Happening
target_set = enrols 7 (1 ∷ []) ∷ sets Target 1 (pos 220) ∷ []

abbrev pub told : List Happening
told = target_set ++ exchange 7 0

abbrev pub ToldAndSettled : Type 0
ToldAndSettled = Reached told (λ w. UpToDate w 7 1 (pos 220))

-- A switch that restarts shows nothing; once its State with InitRequest is taken, its actor is reported outstanding.
abbrev pub RestartedOutstanding : Type 0
RestartedOutstanding =
    Reached (told ++ (restarts 7 ∷ reports 7 (Known (State 64) ∷ []) ∷ takes_event 7 (Known (State 64) ∷ []) ∷ []))
    (λ w. ShowsNothing w 7 1 × ReportedOutstanding w 7 1)

-- A target turned at a switch is shown; nothing is outstanding, and the switch is excused, until its event is taken.
abbrev pub TurnedExcused : Type 0
TurnedExcused = Reached (told ++ (turns 7 1 (pos 190) ∷ [])) (λ w. ShowsTarget w 7 1 (pos 190) × (outstanding_at w.hub 7 ≡ Ok false) × Excused (w.ends 7) 1)

-- Two targets cross: one turned at the switch, one set at the hub, whose packet arrives before the turn's event is taken.

abbrev pub crossing : List Happening
crossing =
    enrols 7 (1 ∷ []) ∷ turns 7 1 (pos 190) ∷ sets Target 1 (pos 230) ∷ composes 7 ∷ sends 7 1 ∷ arrives 7
    ∷ takes_event 7 (Known (EditValue 1 (pos 190)) ∷ []) ∷ answers 7 0 ∷ takes_answer 7 Answer ∷ []

-- the switch shows the older target, its own turn is past, and its actor is reported outstanding
abbrev pub CrossedOutstanding : Type 0
CrossedOutstanding = Reached crossing (λ w. ShowsTarget w 7 1 (pos 230) × ((w.ends 7).display.latest 1 ≡ None) × ReportedOutstanding w 7 1)

-- one exchange later it shows the newer one
abbrev pub CrossedSettled : Type 0
CrossedSettled = Reached (crossing ++ exchange 7 1) (λ w. UpToDate w 7 1 (pos 190))

-- A packet is lost, and of the next one the answer: outstanding until the third is answered.

abbrev pub packet_lost : List Happening
packet_lost = target_set ++ (composes 7 ∷ sends 7 1 ∷ loses_packet 7 ∷ [])

abbrev pub PacketLostOutstanding : Type 0
PacketLostOutstanding = Reached packet_lost (λ w. ShowsNothing w 7 1 × ReportedOutstanding w 7 1)

abbrev pub answer_lost : List Happening
answer_lost = packet_lost ++ (composes 7 ∷ sends 7 2 ∷ arrives 7 ∷ answers 7 1 ∷ loses_payload 7 ∷ [])

-- the switch shows both values, which the hub cannot know
abbrev pub AnswerLostOutstanding : Type 0
AnswerLostOutstanding = Reached answer_lost (λ w. ShowsTarget w 7 1 (pos 220) × Shows w 7 1 × ReportedOutstanding w 7 1)

abbrev pub LostSettled : Type 0
LostSettled = Reached (answer_lost ++ exchange 7 2) (λ w. UpToDate w 7 1 (pos 220))

-- A packet is withheld: it is in no line, and what it carried is outstanding until the next one is answered.

abbrev pub withheld : List Happening
withheld = target_set ++ (composes 7 ∷ withholds 7 1 ∷ [])

abbrev pub WithheldOutstanding : Type 0
WithheldOutstanding = Reached withheld (λ w. ((w.ends 7).line_to.line ≡ []) × ShowsNothing w 7 1 × ReportedOutstanding w 7 1)

abbrev pub WithheldSettled : Type 0
WithheldSettled = Reached (withheld ++ exchange 7 1) (λ w. UpToDate w 7 1 (pos 220))

-- An answer comes when a newer packet, lost, has carried a newer target: it is stale, and settles nothing.
abbrev pub StaleOutstanding : Type 0
StaleOutstanding =
    Reached (target_set
    ++ (composes 7 ∷ sends 7 1 ∷ arrives 7 ∷ answers 7 0 ∷ sets Target 1 (pos 230) ∷ composes 7 ∷ sends 7 2 ∷ loses_packet 7 ∷ takes_answer 7 Stale ∷ []))
    (λ w. ShowsTarget w 7 1 (pos 220) × ReportedOutstanding w 7 1)

-- Two switches list an actor: a target turned at one is outstanding at both, the one that it was turned at too, until both are told.

abbrev pub two_enrolled : List Happening
two_enrolled = enrols 7 (1 ∷ []) ∷ enrols 8 (2 ∷ 1 ∷ []) ∷ []

abbrev pub shared : List Happening
shared =
    two_enrolled
    ++ (exchange 7 0 ++ (exchange 8 0 ++ (turns 7 1 (pos 190) ∷ takes_event 7 (Known (EditValue 1 (pos 190)) ∷ []) ∷ [])))

abbrev pub SharedOutstanding : Type 0
SharedOutstanding = Reached shared (λ w. ShowsTarget w 7 1 (pos 190) × ShowsTarget w 8 1 (pos 5) × ReportedOutstanding w 7 1 × ReportedOutstanding w 8 1)

abbrev pub SharedSettled : Type 0
SharedSettled = Reached (shared ++ (exchange 7 1 ++ exchange 8 1)) (λ w. UpToDate w 7 1 (pos 190) × UpToDate w 8 1 (pos 190))

-- Settling: everything that it supposes, in a run and a quiet stretch of these moves.
pub record SettlingMet (s : ℕ) (before stretch : List Happening) : Type 0 where
  pub first : World
  pub run : Run (opening site fives) first
  pub begun : happenings run ≡ before
  pub buf : List ℕ
  pub composition : Composition
  pub composed : HubModel
  pub composes : compose first.hub s buf ≡ Ok (composition, composed)
  pub last : World
  pub quiet : Quietly s (after_compose first s buf composition composed) last
  pub went : quiet_happenings quiet ≡ stretch
  pub answer : Payload
  pub rest : List Payload
  pub words : Descriptor
  pub messages : List Message
  pub head : (last.ends s).line_from ≡ answer ∷ rest
  pub about : answer.about ≡ answer_to (first.ends s).line_to.composed
  pub said : spoken answer.bytes ≡ Some (words, messages)
  pub from : words.switch ≡ s
  pub arrival : Arrival
  pub count : ℕ
  pub after : HubModel
  pub taken : take_payload last.hub answer.bytes ≡ Ok ((arrival, count), after)

-- and what the law says then: nothing is outstanding
abbrev pub QuietlySettled : ℕ → List Happening → List Happening → Type 0
QuietlySettled s before stretch = (x : SettlingMet s before stretch) × (outstanding_at x.after s ≡ Ok false)

-- the run that tells a new target, from its compose on
abbrev pub ToldQuietly : Type 0
ToldQuietly = QuietlySettled 7 target_set (sends 7 1 ∷ arrives 7 ∷ answers 7 0 ∷ [])

-- A stretch that is quiet for switch 7 alone: another switch joins, actor 2, which 7 does not list, is set and turned, switch 8 is given a control
-- word and a packet is composed for it, and 7 reports flags without InitRequest and is refused a second packet.

abbrev pub beside_others : List Happening
beside_others =
    refuses (composing 7 []) ∷ sends 7 1 ∷ enrols 9 (2 ∷ []) ∷ sets Actual 2 (pos 6) ∷ sets_control 8 0x100 ∷ composes 8
    ∷ turns 8 2 (pos 190) ∷ takes_event 8 (Known (EditValue 2 (pos 190)) ∷ []) ∷ reports 7 (Known (State 0) ∷ []) ∷ takes_event 7 (Known (State 0) ∷ [])
    ∷ arrives 7 ∷ answers 7 0 ∷ []

abbrev pub ToldBesideOthers : Type 0
ToldBesideOthers = QuietlySettled 7 two_enrolled beside_others

-- Dealing: two EditValues of an actor, dealt in one packet, and in two.

-- the messages of each packet
abbrev pub packets : {s : ℕ} {h g : HubModel} {ms : List Message} {n : ℕ} → Dealt s h ms g n → List (List Message)
packets law.Dealt.nothing = []
packets (law.Dealt.packet dealt payload d more arrival count k _ _ _ _) = packets dealt ++ (more ∷ [])

abbrev pub edited : ℤ → Message
edited v = Known (EditValue 1 v)

abbrev pub edited_twice : List Message
edited_twice = edited (pos 190) ∷ edited (pos 200) ∷ []

-- dealt in these packets, from hub h: the hub that they leave, and the total
abbrev pub DealtIn : List (List Message) → HubModel → HubModel → ℕ → Type 0
DealtIn parts h g n = (dealt : Dealt 7 h edited_twice g n) × (packets dealt ≡ parts)

-- equal hubs and equal totals; the later value stands
abbrev pub DealtAlike : HubModel → Type 0
DealtAlike h =
    (g : HubModel) × (k : HubModel) × (n : ℕ) × (m : ℕ) × DealtIn (edited_twice ∷ []) h g n × DealtIn ((edited (pos 190) ∷ []) ∷ (edited (pos 200) ∷ []) ∷ []) h k m
    × (g ≡ k) × (n ≡ m) × (m ≡ 2) × (k.store 1 ≡ Some (pos 5, pos 200))

abbrev pub DealtInOneAndInTwo : Type 0
DealtInOneAndInTwo = Reached (enrols 7 (1 ∷ []) ∷ []) (λ w. DealtAlike w.hub)
