use Rattle.std.proofs.Common.{[], ◌++◌, is_ok, sym, ap, ◌∙◌, append-nil}
use Rattle.model.specs.Models.{HubModel, hub_after}
use Rattle.hub.specs.Memory.{hub_model}
use Rattle.hub.specs.declared.slip.Fate.TheVariants.{Withheld}
use Rattle.hub.specs.Slips.{SlipModel, handed_in}
use Rattle.hub.proofs.Owed.{granted}
use Rattle.stage.proofs.Out.{holds_as, left, owed}
use Rattle.stage.proofs.slip.keep.Goals as goal

pub unwrap-requires : goal.unwrap-requires
unwrap-requires g c =
    let h = hub_model g.S.ActorStore.meaning c.args.hub.now in
    let back = c.in-Err.back.value in
    granted back (handed_in Withheld h back) c.hand_in.result
    (ap (λ (x : SlipModel). is_ok (handed_in Withheld h x)) c.in-Err.ensures.value_returned ∙ owed h c.args.held.now.items [] c.args.slip c.requires.one_more Withheld) c.hand_in.ensures.answer

pub returns-in-Err-clause-holds : goal.returns-in-Err-clause-holds
returns-in-Err-clause-holds g c =
    let h = hub_model g.S.ActorStore.meaning c.args.hub.now in
    let xs = c.args.held.now.items in
    let after = ◌∙◌ {A = HubModel} c.hand_in.ensures.after (ap (λ (x : SlipModel). hub_after h (handed_in Withheld h x)) c.in-Err.ensures.value_returned) in
    holds_as _ _ (xs ++ []) _ after (c.in-Err.ensures.items ∙ sym (append-nil xs)) (left h xs [] c.args.slip c.requires.one_more Withheld)
