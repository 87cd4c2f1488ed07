use Rattle.std.proofs.Common.{cond, List, [], get_or, take, sym, subst, arith}
use Rattle.std.proofs.lemmas.List.{take_all}
use Rattle.packet.specs.declared.message.Record.{Record}
use Rattle.model.specs.declared.item.Item.{Item}
use Rattle.model.specs.Composing.{actor_records, item_records}
use Rattle.model.specs.Marks.{is_outstanding}
use Rattle.hub.specs.Writing.{Wrote}
use Rattle.hub.proofs.Written.{actors_room, blank_item, item_named, items_long, items_more, wrote_nothing, wrote_then}
use Rattle.hub.proofs.refresh.write_items.Goals as goal

pub loop-item-init : goal.loop-item-init
unfolding item_records
loop-item-init g c = wrote_nothing c.args.draft c.args.buf.now

pub write_item-draft-requires : goal.write_item-draft-requires
write_item-draft-requires g c =
    let xs = c.args.items.now in
    let i = c.loop-item.item-index in
    let size = c.loop-item.invariant.size in
    let long = items_long (g.S.ActorStore.meaning c.args.store.now) (take i xs) in
    let room = actors_room xs i blank_item c.loop-item-test.true in
    record { named = item_named xs i blank_item c.loop-item-test.true c.requires.named; room = (omega arith, omega arith) }

pub loop-item-preserved : goal.loop-item-preserved
loop-item-preserved g c =
    let xs = c.args.items.now in
    let i = c.loop-item.item-index in
    let st = g.S.ActorStore.meaning c.args.store.now in
    let x = get_or xs i blank_item in
    subst (λ (l : List Record). Wrote c.args.draft c.args.buf.now l c.write_item-draft.result c.write_item-draft.new.buf) (sym (items_more xs i blank_item c.loop-item-test.true st))
    (wrote_then c.args.draft c.loop-item.draft c.write_item-draft.result c.args.buf.now c.loop-item.buf c.write_item-draft.new.buf
    (item_records st (take i xs)) (cond (is_outstanding x.mark) (actor_records st x.actor) []) c.loop-item.invariant c.write_item-draft.ensures)

pub returns : goal.returns
returns g c =
    let st = g.S.ActorStore.meaning c.args.store.now in
    subst (λ (l : List Item). Wrote c.args.draft c.args.buf.now (item_records st l) c.loop-item.draft c.loop-item.buf) (take_all c.loop-item.item-index c.args.items.now c.loop-item-test.false) c.loop-item.invariant
