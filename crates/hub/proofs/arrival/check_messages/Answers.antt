use Rattle.std.proofs.Common.{◌≡◌, ℕ, ◌+◌, ◌≤◌, List, [], length, IfSome, Some, None, Ok, sym, ap, ◌∙◌, subst, arith}
use Rattle.packet.specs.Reading.{messages_from}
use Rattle.packet.specs.Walking.{Walked}
use Rattle.hub.specs.declared.arrival.Survey.{Survey}
use Rattle.hub.specs.Surveys.{survey_of}
use Rattle.hub.proofs.Surveys.{noted_few, onto, onto_end, onto_more}
use Rattle.hub.proofs.arrival.check_messages.Goals as goal

pub loop-place-preserved : goal.loop-place-preserved
loop-place-preserved c =
    let t = c.in_ok-place.ensures in
    let i = c.loop-place.invariant in
    let items = c.args.switch.now.items in
    let from = c.loop-place.cursor.place in
    let to = c.next.new.self.place in
    let moves = subst (λ o. IfSome o (λ _. (from + 4 ≤ to) × (to ≤ length c.loop-place.cursor.payload))) c.in-Some.is t.moves in
    let walked = subst (λ (l : List ℕ). Walked l from to (Ok (Some (c.in-Some.place, c.in-Some.message)))) i.0 (subst (λ o. Walked c.loop-place.cursor.payload from to (Ok o)) c.in-Some.is t.walked) in
    let few = noted_few items c.in-Some.place c.in-Some.message c.loop-place.survey in
    let same = c.note.ensures in
    let long = ap length i.0 in (
      t.payload ∙ i.0,
      subst (λ (s : Survey). s.understood ≤ to) (sym same) (omega (arith, moves.0, i.1)),
      omega (arith, moves.1, long, c.requires),
      ap (λ (s : Survey). onto s (survey_of items (messages_from c.args.payload.now to))) same
          ∙ sym (onto_more items c.loop-place.survey c.in-Some.place c.in-Some.message (messages_from c.args.payload.now to))
          ∙ ap (λ r. onto c.loop-place.survey (survey_of items r)) (sym walked)
          ∙ i.3,
    )

pub returns : goal.returns
returns c =
    let t = c.in_ok-place.ensures in
    let i = c.loop-place.invariant in
    let items = c.args.switch.now.items in
    let from = c.loop-place.cursor.place in
    let to = c.next.new.self.place in
    let walked : messages_from c.args.payload.now from ≡ Ok [] = subst (λ (l : List ℕ). Walked l from to (Ok None)) i.0 (subst (λ o. Walked c.loop-place.cursor.payload from to (Ok o)) c.in_default.is t.walked) in
    sym (onto_end items c.loop-place.survey) ∙ ap (λ r. onto c.loop-place.survey (survey_of items r)) (sym walked) ∙ i.3
