-- The law of truthful switches.
use Rattle.std.specs.Prelude.{◌≡◌, ℕ, ◌+◌, ◌<◌, true, false, ◌⊎◌, List, [], ◌∷◌, ◌++◌, take, Some, None, Ok}
use Rattle.packet.specs.declared.message.Message.{Message}
use Rattle.packet.specs.declared.descriptor.Descriptor.{Descriptor}
use Rattle.store.specs.declared.actor_store.Half.TheVariants.{Actual, Target}
use Rattle.store.specs.Meaning as store
use Rattle.model.specs.declared.mark.Mark.{Mark}
use Rattle.model.specs.declared.told.Arrival.{Arrival}
use Rattle.model.specs.declared.told.Site.{Site}
use Rattle.model.specs.Composing.{Composition, compose, composed_bytes}
use Rattle.model.specs.Marks.{is_outstanding}
use Rattle.model.specs.Models.{HubModel, SwitchModel, find_switch, lists_actor}
use Rattle.model.specs.Opening.{new_hub}
use Rattle.model.specs.Questions.{actor_mark, outstanding_at}
use Rattle.model.specs.Taking.{take_payload}
use Rattle.law.specs.Values.{Any, Edits, Inits, last_accepted, slot, spoken}
use Rattle.law.specs.World as world
use Rattle.law.specs.World.{Act, End, Move, Payload, Run, World, answer_to, issued, packet_now, restart, turn, turn_of, with_end, with_hub, with_line_to}

-- At the opening no switch is enrolled, every line is empty, and no switch shows anything.
abbrev pub silent_end : End
silent_end = record {
  display = record { shown = λ k. None; latest = λ a. None; acts = 0 };
  line_to = record { line = []; waiting = []; composed = 0; delivered = [] };
  line_from = [];
  taken = [];
}

abbrev pub opening : Site → store.Known → World
opening site st = record { hub = new_hub site st; ends = λ s. silent_end; opened = st; past = [] }

-- switch s is enrolled and lists actor a
abbrev pub Lists : World → ℕ → ℕ → Type 0
Lists w s a = (m : SwitchModel) × (find_switch s w.hub.switches ≡ Some m) × (lists_actor a m.items ≡ true)

-- Truth: each listed actor is shown as last accepted or opened with, or reported outstanding, or excused.

-- switch s shows both values of actor a that were last accepted or opened with
abbrev pub Shows : World → ℕ → ℕ → Type 0
Shows w s a =
    ((w.ends s).display.shown (slot Actual a) ≡ Some (last_accepted w.opened w.past (slot Actual a)))
    × ((w.ends s).display.shown (slot Target a) ≡ Some (last_accepted w.opened w.past (slot Target a)))

-- the hub, asked, reports actor a outstanding at switch s
abbrev pub ReportedOutstanding : World → ℕ → ℕ → Type 0
ReportedOutstanding w s a = (mark : Mark) × (actor_mark w.hub s a ≡ Ok mark) × (is_outstanding mark ≡ true)

-- an accepted payload tells an act on actor a: it is the event of that turn, or a State with InitRequest sent after that restart
abbrev pub Tells : ℕ → Act → Payload → Type 0
Tells a (turn j) p = p.about ≡ turn_of j a
Tells a (restart j) p = (d : Descriptor) × (ms : List Message) × (spoken p.bytes ≡ Some (d, ms)) × (d.number ≡ 0) × Any Inits ms × j < p.acts_before

-- its latest act on that actor, since a packet last brought it that actor, is not taken
abbrev pub Excused : End → ℕ → Type 0
Excused e a = (x : Act) × (e.display.latest a ≡ Some x) × (Any (Tells a x) e.taken → ⊥)

abbrev pub Truth : Site → store.Known → Type 0
Truth site st =
    (w : World) → Run (opening site st) w → (s a : ℕ) → Lists w s a
    → Shows w s a ⊎ (ReportedOutstanding w s a ⊎ Excused (w.ends s) a)

-- Dealing: event messages of one switch, dealt in order over accepted packets in any two ways, leave equal hubs and equal totals.

-- messages dealt over accepted events of switch s, from hub h: the hub that they leave, and the total of understood messages
pub data Dealt (s : ℕ) (h : HubModel) : List Message → HubModel → ℕ → Type 0 where
  nothing : Dealt s h [] h 0
  packet : {ms : List Message} {g : HubModel} {n : ℕ} → Dealt s h ms g n → (payload : List ℕ) (d : Descriptor) (more : List Message) (told : Arrival) (count : ℕ) (k : HubModel)
      → spoken payload ≡ Some (d, more) → d.switch ≡ s → d.number ≡ 0 → take_payload g payload ≡ Ok ((told, count), k) → Dealt s h (ms ++ more) k (n + count)

abbrev pub Dealing : Type 0
Dealing =
    (s : ℕ) (h h' : HubModel) → h ≡ h' → (ms : List Message) (g g' : HubModel) (n n' : ℕ)
    → Dealt s h ms g n → Dealt s h' ms g' n' → (g ≡ g') × (n ≡ n')

-- Settling: a packet sent, delivered and answered, its answer taken with no change between, leaves its switch nothing outstanding.

-- No change for switch s: no accepted setting or EditValue of an actor that it lists, no InitRequest from it, no control setting and no further
-- compose for it.
abbrev pub Quiet : (s : ℕ) {w u : World} → Move w u → Type 0
Quiet s (world.Move.enrols id list g _ _ _) = Unit {0}
Quiet s {w} (world.Move.sets half a v g _) = Lists w s a → ⊥
Quiet s (world.Move.sets_control id word g _) = id ≡ s → ⊥
Quiet s {w} (world.Move.takes_event t p rest d ms told count g _ _ _ _ _) = ((a : ℕ) → Lists w s a → Any (Edits a) ms → ⊥) × (t ≡ s → Any Inits ms → ⊥)
Quiet s (world.Move.takes_answer t p rest d ms told count g _ _ _ _ _ _) = Unit {0}
Quiet s (world.Move.composes t buf c g _) = t ≡ s → ⊥
Quiet s (world.Move.sends t number g _) = Unit {0}
Quiet s (world.Move.withholds t number g _) = Unit {0}
Quiet s (world.Move.refuses c _) = Unit {0}
Quiet s (world.Move.arrives t p rest _) = Unit {0}
Quiet s (world.Move.loses_packet t p rest _) = Unit {0}
Quiet s (world.Move.loses_payload t p rest _) = Unit {0}
Quiet s (world.Move.answers t k bytes d ms _ _) = Unit {0}
Quiet s (world.Move.turns t a v bytes d ms _ _ _ _) = Unit {0}
Quiet s (world.Move.restarts t) = Unit {0}
Quiet s (world.Move.reports t bytes d ms _ _) = Unit {0}

pub data Quietly (s : ℕ) (w : World) : World → Type 0 where
  stay : Quietly s w w
  then : {u v : World} → Quietly s w u → (x : Move u v) → Quiet s x → Quietly s w v

-- the world right after a compose for switch s
abbrev pub after_compose : World → ℕ → List ℕ → Composition → HubModel → World
after_compose w s buf c g =
    with_end s (with_line_to (issued (packet_now w s (take c.size (composed_bytes w.hub s buf))) (w.ends s).line_to) (w.ends s)) (with_hub g w)

abbrev pub Settling : Site → store.Known → Type 0
Settling site st =
    (w : World) → Run (opening site st) w
    → (s : ℕ) (buf : List ℕ) (c : Composition) (g : HubModel) → compose w.hub s buf ≡ Ok (c, g)
    → (u : World) → Quietly s (after_compose w s buf c g) u
    → (p : Payload) (rest : List Payload) (d : Descriptor) (ms : List Message)
    → (u.ends s).line_from ≡ p ∷ rest → p.about ≡ answer_to (w.ends s).line_to.composed → spoken p.bytes ≡ Some (d, ms) → d.switch ≡ s
    → (told : Arrival) (count : ℕ) (k : HubModel) → take_payload u.hub p.bytes ≡ Ok ((told, count), k)
    → outstanding_at k s ≡ Ok false

-- The law, whole, of a hub that is opened with these words over a store with this meaning.
unfoldable pub TruthfulSwitches : Site → store.Known → Type 0
TruthfulSwitches site st = Truth site st × Dealing × Settling site st
