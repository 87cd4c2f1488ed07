-- What opens and closes no slip leaves each switch the slip that it has.
use Rattle.std.proofs.Common.{◌≡◌, ℕ, Bool, true, false, cond, not, eqb, List, [], ◌∷◌, ◌++◌, ℤ, is_some, Some, None, Ok, Err, Option, Result, refl, ap, ◌∙◌}
use Rattle.std.specs.Option.{option_map, option_or}
use Rattle.std.proofs.lemmas.Bool.{true≢false}
use Rattle.fault.specs.declared.CallFault.TheVariants.{ControlWord}
use Rattle.fault.specs.declared.Fault.{Fault}
use Rattle.fault.specs.declared.Fault.TheVariants as fault
use Rattle.fault.specs.declared.FrameFault.TheVariants.{Project}
use Rattle.packet.proofs.Spelling.{past}
use Rattle.packet.specs.declared.message.Message.{Message}
use Rattle.packet.specs.declared.descriptor.Descriptor.{Descriptor}
use Rattle.packet.specs.Messages.{understood}
use Rattle.packet.specs.Reading.{messages_from}
use Rattle.packet.specs.Words.{descriptor_of}
use Rattle.store.specs.declared.actor_store.Half.{Half}
use Rattle.store.specs.declared.actor_store.Half.TheVariants.{Target}
use Rattle.store.specs.Meaning.{put_answer}
use Rattle.model.specs.declared.told.Arrival.{Arrival}
use Rattle.model.specs.declared.told.Arrival.TheVariants as arrival
use Rattle.model.specs.Composing.{Composition, compose_for}
use Rattle.model.specs.Models.{HubModel, SwitchModel, change_switch, find_switch, hub_after, is_number, touched, with_control, with_switches}
use Rattle.model.specs.Opening.{enrol, enrol_fault, new_switch, unless}
use Rattle.model.specs.Settings.{at_enrolled, granted, lawful_control, set_control, set_value, with_value}
use Rattle.model.specs.Taking.{answered, event_unless, first_unlisted, heard, heard_message, take_answer, take_event, take_from, take_messages, take_ours, take_payload}
use Rattle.law.proofs.Elements.{err≢ok}
use Rattle.law.proofs.Hearing.{hear_keeps}
use Rattle.law.proofs.Switches.{KeepsId, find_append, find_map, found_after}
use Rattle.law.proofs.Taken.{hear_all}
use Rattle.hub.specs.Slips.{slip_in, slip_out}

-- each switch has the slip that it had
abbrev pub SameSlips : HubModel → HubModel → Type 0
SameSlips h g = (s : ℕ) → slip_out g s ≡ slip_out h s

abbrev KeepsSlip : (SwitchModel → SwitchModel) → Type 0
KeepsSlip f = (m : SwitchModel) → (f m).numbers.slip ≡ m.numbers.slip

slip_mapped : (f : SwitchModel → SwitchModel) → KeepsSlip f → (o : Option SwitchModel) → slip_in (option_map f o) ≡ slip_in o
slip_mapped f k None = refl
slip_mapped f k (Some m) = k m

slips_changed : (h : HubModel) (id : ℕ) (f : SwitchModel → SwitchModel) → KeepsId f → KeepsSlip f → SameSlips h (change_switch id f h)
slips_changed h id f i k s = found_after (λ o. slip_in o ≡ slip_out h s) id s f i h.switches (λ o e. slip_mapped f k o ∙ e) refl

slips_set : (h : HubModel) (a : ℕ) (half : Half) (v : ℤ) → SameSlips h (with_value a half v h)
slips_set h a half v s = ap slip_in (find_map (touched a) (λ m. refl) s h.switches) ∙ slip_mapped (touched a) (λ m. refl) (find_switch s h.switches)

pub slips_enrol : (h : HubModel) (id : ℕ) (list : List ℕ) → SameSlips h (hub_after h (enrol h id list))
slips_enrol h id list s = go (enrol_fault h id list)
  where
    -- a new switch has no slip open
    same : (b : Bool) (o : Option SwitchModel) → slip_in (option_or o (cond b (Some (new_switch id list)) None)) ≡ slip_in o
    same b (Some m) = refl
    same true None = refl
    same false None = refl

    go : (o : Option Fault) → slip_out (hub_after h (unless {A = Unit {0} × HubModel} o (tt, with_switches (h.switches ++ new_switch id list ∷ []) h))) s ≡ slip_out h s
    go None = ap slip_in (find_append s h.switches (new_switch id list)) ∙ same (eqb id s) (find_switch s h.switches)
    go (Some f) = refl

pub slips_value : (h : HubModel) (a : ℕ) (half : Half) (v : ℤ) → SameSlips h (hub_after h (set_value h a half v))
slips_value h a half v s = go (put_answer h.store a v)
  where
    go : (r : Result Unit Fault) → slip_out (hub_after h (granted r (with_value a half v h))) s ≡ slip_out h s
    go (Ok x) = slips_set h a half v s
    go (Err e) = refl

pub slips_control : (h : HubModel) (id word : ℕ) → SameSlips h (hub_after h (set_control h id word))
slips_control h id word s = go (find_switch id h.switches) (not (lawful_control word))
  where
    go : (o : Option SwitchModel) (b : Bool)
        → slip_out (hub_after h (at_enrolled {A = Unit {0} × HubModel} o (λ _. cond b (Err (fault.Call ControlWord 0)) (Ok (tt, change_switch id (with_control word) h))))) s ≡ slip_out h s
    go None b = refl
    go (Some m) true = refl
    go (Some m) false = slips_changed h id (with_control word) (λ n. refl) (λ n. refl) s

-- Taking.

-- each message by itself, since what an event keeps is known of messages without offsets
slips_heard : (s id : ℕ) (ms : List (ℕ × Message)) (h g : HubModel) → slip_out g s ≡ slip_out h s → slip_out (heard id ms g) s ≡ slip_out h s
unfolding heard hear_all
slips_heard s id [] h g e = e
slips_heard s id (m ∷ ms) h g e =
    slips_heard s id ms h (heard_message id m.1 g)
    (hear_keeps (λ k. slip_out k s ≡ slip_out h s) (λ k a v _ p. slips_set k a Target v s ∙ p) (λ k t r p. slips_changed k t _ (λ n. refl) (λ n. refl) s ∙ p)
    (λ k t r p. slips_changed k t _ (λ n. refl) (λ n. refl) s ∙ p) id (m.1 ∷ []) g e)

slips_messages : (h : HubModel) (m : SwitchModel) (d : Descriptor) (r : Result (List (ℕ × Message)) Fault) → SameSlips h (hub_after h (take_messages h m d r))
slips_messages h m d (Err e) s = refl
slips_messages h m d (Ok ms) s = go (eqb d.number 0)
  where
    event : (o : Option ℕ) → slip_out (hub_after h (event_unless o (understood ms) (heard d.switch ms h))) s ≡ slip_out h s
    event None = slips_heard s d.switch ms h h refl
    event (Some place) = refl

    answer : (b : Bool)
        → slip_out (hub_after {A = Arrival × ℕ} h (cond b (Ok ((arrival.Answer, understood ms), change_switch d.switch answered h)) (Ok ((arrival.Stale, understood ms), h)))) s ≡ slip_out h s
    answer true = slips_changed h d.switch answered (λ n. refl) (λ n. refl) s
    answer false = refl

    go : (b : Bool) → slip_out (hub_after h (cond b (take_event h m d.switch ms) (take_answer h m d.switch d.number ms))) s ≡ slip_out h s
    go true = event (first_unlisted m.items ms)
    go false = answer (is_number m.numbers.awaited d.number)

pub slips_take : (h : HubModel) (payload : List ℕ) → SameSlips h (hub_after h (take_payload h payload))
slips_take h payload s = go (descriptor_of payload)
  where
    ours : (d : Descriptor) (b : Bool) (o : Option SwitchModel) → slip_out (hub_after h (cond b (Err (fault.Frame Project 8)) (take_from h o d payload))) s ≡ slip_out h s
    ours d true o = refl
    ours d false None = refl
    ours d false (Some m) = slips_messages h m d (messages_from payload 16) s

    go : (r : Result Descriptor Fault) → slip_out (hub_after h (take_ours h r payload)) s ≡ slip_out h s
    go (Err e) = refl
    go (Ok d) = ours d (not (eqb d.project h.site.project)) (find_switch d.switch h.switches)

-- A switch is composed for only while it has no slip open.
pub vacant : (h : HubModel) (id : ℕ) (buf : List ℕ) (o : Option SwitchModel) (x : Composition × HubModel) → at_enrolled o (compose_for h id buf) ≡ Ok x → slip_in o ≡ None
vacant h id buf None x e = absurd (err≢ok e)
vacant h id buf (Some m) x e = go m.numbers.slip (past (is_some m.numbers.slip) _ _ x e).0
  where
    go : (o : Option ℕ) → is_some o ≡ false → o ≡ None
    go None q = refl
    go (Some n) q = absurd (true≢false q)
