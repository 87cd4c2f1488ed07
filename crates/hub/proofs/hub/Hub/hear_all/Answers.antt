use Rattle.std.proofs.Common.{◌≡◌, ℕ, List, [], is_ok, Ok, sym, ap, ◌∙◌, subst}
use Rattle.packet.specs.Reading.{messages_from}
use Rattle.packet.specs.Walking.{ahead}
use Rattle.hub.specs.Memory.{hub_model}
use Rattle.hub.specs.Surveys.{heard_all}
use Rattle.hub.proofs.Surveys.{heard_end, heard_more, ok_more}
use Rattle.hub.proofs.hub.Hub.hear_all.Goals as goal

pub loop-message-preserved : goal.loop-message-preserved
loop-message-preserved g c =
    let t = c.in-Some.ensures in
    let i = c.loop-message.invariant in
    let s = c.args.payload.now in
    let from = c.loop-message.cursor.place in
    let to = c.next_message.new.cursor.place in
    let h = hub_model g.S.ActorStore.meaning c.loop-message.self in
    let place = t.walked.0 in
    let walked : messages_from s from ≡ ahead (place, c.in-Some.message) (messages_from s to) =
    subst (λ (l : List ℕ). messages_from l from ≡ ahead (place, c.in-Some.message) (messages_from l to)) i.0 t.walked.1 in (
      t.payload ∙ i.0,
      ok_more place c.in-Some.message (messages_from s to) (ap is_ok (sym walked) ∙ i.1),
      ap (heard_all c.args.id (messages_from s to)) c.hear.ensures
          ∙ sym (heard_more c.args.id place c.in-Some.message (messages_from s to) h (ap is_ok (sym walked) ∙ i.1))
          ∙ ap (λ r. heard_all c.args.id r h) (sym walked)
          ∙ i.2,
    )

pub returns : goal.returns
returns g c =
    let t = c.in_default.ensures in
    let i = c.loop-message.invariant in
    let s = c.args.payload.now in
    let from = c.loop-message.cursor.place in
    let h = hub_model g.S.ActorStore.meaning c.loop-message.self in
    let walked : messages_from s from ≡ Ok [] = subst (λ (l : List ℕ). messages_from l from ≡ Ok []) i.0 t.walked in
    sym (heard_end c.args.id h) ∙ ap (λ r. heard_all c.args.id r h) (sym walked) ∙ i.2
