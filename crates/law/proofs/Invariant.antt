-- What holds in every world that a run comes to.
use Rattle.std.proofs.Common.{◌≡◌, ℕ, suc, ◌%◌, ◌^◌, ◌<◌, ◌≤◌, true, ◌⊎◌, List, [], ◌∷◌, ◌++◌, length, ℤ, is_some, Some, None, Option}
use Rattle.std.specs.List.{AllByRecursion}
use Rattle.packet.specs.declared.message.Message.{Message}
use Rattle.packet.specs.declared.descriptor.Descriptor.{Descriptor}
use Rattle.store.specs.declared.actor_store.Half.{Half}
use Rattle.store.specs.Meaning.{Known}
use Rattle.model.specs.declared.item.Item.{Item}
use Rattle.model.specs.declared.mark.Mark.{Mark}
use Rattle.model.specs.declared.mark.Mark.TheVariants.{Settled, Due, UnderWay}
use Rattle.model.specs.declared.told.Numbers.{Numbers}
use Rattle.model.specs.declared.told.Site.{Site}
use Rattle.model.specs.Composing.{values_of}
use Rattle.model.specs.Models.{SwitchModel, find_switch}
use Rattle.law.specs.Values.{Any, Edits, half_of, slot, spoken}
use Rattle.law.specs.World as world
use Rattle.law.specs.World.{About, End, LineTo, Packet, Payload, World, messages_in}
use Rattle.law.specs.Law.{Excused}
use Rattle.law.proofs.Brought.{Agrees, Full, Silent}
use Rattle.law.proofs.Held.{Lawful, Recalls}
use Rattle.law.proofs.Written.{ActorFits}

-- what every site has: its words are words of 16 bits
pub record SiteFits (site : Site) : Type 0 where
  pub version : site.version < 2 ^ 16
  pub project : site.project < 2 ^ 16
  pub firmware : site.firmware < 2 ^ 16
  pub design : site.design < 2 ^ 16

-- the number of the packet of this index
unfoldable pub number_of : ℕ → ℕ
number_of index = suc (index % 65535)

-- the PackageID of what a payload says
abbrev pub number_in : Option (Descriptor × List Message) → ℕ
number_in None = 0
number_in (Some p) = p.0.number

-- what a packet says
abbrev pub said_by : Packet → List Message
said_by p = messages_in (spoken p.payload)

-- packets on the line, and the one whose slip is out
abbrev pub flight : LineTo → List Packet
flight l = l.line ++ l.waiting

-- The lines.

-- a packet says something under the number that goes with its index
abbrev pub Numbered : Packet → Type 0
Numbered p = number_in (spoken p.payload) ≡ number_of p.index

-- packets in flight have rising indices, from n on and below c, and the numbers that go with them
abbrev pub Between : ℕ → List Packet → ℕ → Type 0
Between n [] c = n ≤ c
Between n (p ∷ ps) c = (n ≤ p.index) × Numbered p × Between (suc p.index) ps c

abbrev pub Behind : ℕ → Packet → Type 0
Behind n p = (p.index < n) × Numbered p

-- the packet of this index was delivered
abbrev pub Delivered : ℕ → List Packet → Type 0
Delivered k ps = Any (λ p. p.index ≡ k) ps

-- a payload is what it is sent as, of a switch with n acts and these packets delivered to it
abbrev pub AboutFine : ℕ → List Packet → Option (Descriptor × List Message) → About → Type 0
AboutFine n ps o (world.About.answer_to k) = (number_in o ≡ number_of k) × Delivered k ps
AboutFine n ps o (world.About.turn_of j a) = (j < n) × (number_in o ≡ 0) × Any (Edits a) (messages_in o)
AboutFine n ps o world.About.other_event = number_in o ≡ 0

abbrev pub PayloadFine : ℕ → List Packet → Payload → Type 0
PayloadFine n ps p = (p.acts_before ≤ n) × AboutFine n ps (spoken p.bytes) p.about

pub record Lines (e : End) : Type 0 where
  pub passed : ℕ
  pub behind : AllByRecursion (Behind passed) e.line_to.delivered
  pub ahead : Between passed (flight e.line_to) e.line_to.composed
  pub coming : AllByRecursion (PayloadFine e.display.acts e.line_to.delivered) e.line_from
  pub taken : AllByRecursion (PayloadFine e.display.acts e.line_to.delivered) e.taken

-- The items.

-- actor a, with these values last accepted, is shown so, or excused
abbrev pub Good : ℤ × ℤ → ℕ → End → Type 0
Good values a e = ((half : Half) → e.display.shown (slot half a) ≡ Some (half_of half values)) ⊎ Excused e a

-- Settled: no packet in flight brings it. Under way: the packet composed last brings these values, and once it is delivered they are shown.
abbrev pub MarkFine : ℤ × ℤ → ℕ → End → Mark → Type 0
MarkFine values a e Settled = Good values a e × AllByRecursion (λ p. Silent a (said_by p)) (flight e.line_to)
MarkFine values a e Due = Unit {0}
MarkFine values a e UnderWay =
    (c : ℕ) × (e.line_to.composed ≡ suc c)
    × AllByRecursion (λ p. p.index ≡ c → Agrees values a (said_by p) × Full a (said_by p)) (flight e.line_to)
    × (Delivered c e.line_to.delivered → Good values a e)

-- an item, where marks tells the mark of each actor
pub record ItemFine (st : Known) (marks : ℕ → Mark) (e : End) (x : Item) : Type 0 where
  pub fits : ActorFits x
  pub known : is_some (st x.actor) ≡ true
  pub marked : x.mark ≡ marks x.actor
  pub fine : MarkFine (values_of (st x.actor)) x.actor e x.mark

-- The switches.

pub record NumbersFine (n : Numbers) (l : LineTo) : Type 0 where
  pub next : n.next ≡ number_of l.composed
  pub awaits : (n.awaited ≡ None) ⊎ ((c : ℕ) × (l.composed ≡ suc c) × (n.awaited ≡ Some (number_of c)))
  pub slip : (n.slip ≡ None) ⊎ ((p : Packet) × (l.waiting ≡ p ∷ []) × (l.composed ≡ suc p.index))

pub record SwitchFine (st : Known) (m : SwitchModel) (e : End) : Type 0 where
  pub fits : m.id < 2 ^ 16
  pub short : length m.items ≤ 64
  pub numbers : NumbersFine m.numbers e.line_to
  pub marks : ℕ → Mark
  pub items : AllByRecursion (ItemFine st marks e) m.items

abbrev pub Enrolled : Known → Option SwitchModel → End → Type 0
Enrolled st None e = e.line_to.composed ≡ 0
Enrolled st (Some m) e = SwitchFine st m e

-- a switch, by the store, its model and its lines
abbrev pub Here : Known → Option SwitchModel → End → Type 0
Here st o e = Lines e × Enrolled st o e

pub record Holds (words : Site) (w : World) : Type 0 where
  pub site : w.hub.site ≡ words
  pub lawful : Lawful w.hub.store
  pub recalls : Recalls w.opened w.past w.hub.store
  pub each : (s : ℕ) → Here w.hub.store (find_switch s w.hub.switches) (w.ends s)
