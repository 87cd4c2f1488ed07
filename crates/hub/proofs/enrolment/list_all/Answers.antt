use Rattle.std.proofs.Common.{◌≡◌, true, false, map, is_some, get_or, take, Option, sym, ap, ◌∙◌}
use Rattle.std.proofs.lemmas.Bool.{cond-true}
use Rattle.fault.specs.declared.Fault.{Fault}
use Rattle.model.specs.Models.{SwitchModel}
use Rattle.model.specs.Opening.{due_item, new_switch, unless}
use Rattle.switch.specs.Items.{listing, may_list}
use Rattle.hub.proofs.Entries.{listed, next, refused, unknown_entry}
use Rattle.hub.proofs.enrolment.list_all.Goals as goal

pub returns-then-not-list : goal.returns-then-not-list
returns-then-not-list g c =
    let m = g.S.ActorStore.meaning c.args.store.now in
    let xs = c.args.actors.now in
    let i = c.loop-i.i in
    let a = get_or xs i 0 in
    let inv = c.loop-i.invariant in
    let no : may_list a (map due_item (take i xs)) ≡ false = sym (ap (λ (s : SwitchModel). may_list a s.items) inv.1) ∙ sym c.list.ensures.answer ∙ c.if-not-list.true in
    sym (ap (λ (o : Option Fault). unless o (new_switch c.args.id xs)) (refused m xs i inv.0 c.loop-i-test.true c.requires.few no))

pub returns-then-not-is_known : goal.returns-then-not-is_known
returns-then-not-is_known g c =
    let m = g.S.ActorStore.meaning c.args.store.now in
    let xs = c.args.actors.now in
    let i = c.loop-i.i in
    let a = get_or xs i 0 in
    let inv = c.loop-i.invariant in
    let yes : may_list a (map due_item (take i xs)) ≡ true = sym (ap (λ (s : SwitchModel). may_list a s.items) inv.1) ∙ sym c.list.ensures.answer ∙ c.if-not-list.false in
    let missing : is_some (m a) ≡ false = sym c.is_known.ensures ∙ c.if-not-is_known.true in
    sym (ap (λ (o : Option Fault). unless o (new_switch c.args.id xs)) (unknown_entry m xs i inv.0 c.loop-i-test.true c.requires.few yes missing))

pub loop-i-preserved : goal.loop-i-preserved
loop-i-preserved g c =
    let m = g.S.ActorStore.meaning c.args.store.now in
    let xs = c.args.actors.now in
    let i = c.loop-i.i in
    let a = get_or xs i 0 in
    let inv = c.loop-i.invariant in
    let yes : may_list a (map due_item (take i xs)) ≡ true = sym (ap (λ (s : SwitchModel). may_list a s.items) inv.1) ∙ sym c.list.ensures.answer ∙ c.if-not-list.false in
    let found : is_some (m a) ≡ true = sym c.is_known.ensures ∙ c.if-not-is_known.false in
    let may : may_list a c.loop-i.switch.items ≡ true = sym c.list.ensures.answer ∙ c.if-not-list.false in (
      next m xs i inv.0 c.loop-i-test.true c.requires.few yes found,
      c.list.ensures.after ∙ cond-true _ _ _ may ∙ ap (listing a) inv.1 ∙ listed m xs i inv.0 c.loop-i-test.true c.requires.few c.args.id,
    )
