use Rattle.std.proofs.Common.{◌≡◌, ℕ, cond, List, [], ◌∷◌, ◌++◌, take, sym, refl, ap, ◌∙◌, ap₂, arith}
use Rattle.std.proofs.lemmas.List.{take-append-drop}
use Rattle.packet.specs.declared.message.Record.{Record}
use Rattle.packet.specs.declared.message.Record.TheVariants.{Control}
use Rattle.packet.specs.Drafts.{size_of}
use Rattle.packet.specs.Packets.{packet_bytes}
use Rattle.model.specs.declared.item.Item.{Item}
use Rattle.model.specs.declared.mark.Mark.{Mark}
use Rattle.model.specs.Composing.{item_records}
use Rattle.model.specs.Marks.{is_outstanding}
use Rattle.hub.specs.Compositions.{packet_length}
use Rattle.hub.proofs.Written.{control_long, items_long, packet_sized}
use Rattle.hub.proofs.refresh.write_packet.Goals as goal

pub write_items-draft-requires : goal.write_items-draft-requires
write_items-draft-requires g c =
    let m = c.args.switch.now in
    let sized = packet_sized m c.items.result.now m.mark c.items.ensures.items refl c.items.ensures.few in
    record { named = c.items.ensures.named; room = (omega arith, omega arith) }

pub write_control-draft-requires : goal.write_control-draft-requires
write_control-draft-requires g c =
    let sized = packet_sized c.args.switch.now c.items.result.now c.control_mark.result c.items.ensures.items c.control_mark.ensures c.items.ensures.few in
    let long = items_long (g.S.ActorStore.meaning c.args.store.now) c.items.result.now in
    record { room = (omega arith, omega arith) }

pub finish-requires : goal.finish-requires
finish-requires g c =
    let sized = packet_sized c.args.switch.now c.items.result.now c.control_mark.result c.items.ensures.items c.control_mark.ensures c.items.ensures.few in
    let long = items_long (g.S.ActorStore.meaning c.args.store.now) c.items.result.now in
    let last = control_long c.control_mark.result c.control.result in
    record { room = (omega arith, omega arith) }

pub returns : goal.returns
returns g c =
    let st = g.S.ActorStore.meaning c.args.store.now in
    let m = c.args.switch.now in
    let w = c.args.words in
    let end = c.finish.new.buf in
    let sized = packet_sized m c.items.result.now c.control_mark.result c.items.ensures.items c.control_mark.ensures c.items.ensures.few in
    let long = items_long st c.items.result.now in
    let last = control_long c.control_mark.result c.control.result in
    let whole : size_of c.write_control-draft.result ≡ packet_length m = omega arith in
    let written = c.write_control-draft.ensures.drafting w _ (c.write_items-draft.ensures.drafting w [] c.begin-draft.ensures.drafting) in
    let said = ap₂ (λ (is : List Item) (rs : List Record). item_records st is ++ rs) c.items.ensures.items
    (ap₂ (λ (k : Mark) (word : ℕ). cond (is_outstanding k) (Control word ∷ []) []) c.control_mark.ensures c.control.ensures) in
    let front = ap (λ (n : ℕ). take n end) (sym whole) ∙ c.finish.ensures.packet w _ written ∙ ap (packet_bytes w) said in
    let beyond = c.finish.ensures.beyond (packet_length m) (omega arith)
    ∙ c.write_control-draft.ensures.beyond (packet_length m) (omega arith)
    ∙ c.write_items-draft.ensures.beyond (packet_length m) (omega arith)
    ∙ c.begin-draft.ensures.beyond (packet_length m) (omega arith) in
    sym (take-append-drop (packet_length m) end) ∙ ap₂ (λ (a b : List ℕ). a ++ b) front beyond
