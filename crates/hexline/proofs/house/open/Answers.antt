use Rattle.store.specs.Tables.{actors_in}
use Rattle.hub.specs.Memory.{hub_model}
use Rattle.hexline.proofs.Opened.{opens, first_done, first_leaves, second_done, second_leaves}
use Rattle.hexline.proofs.house.open.Goals as goal

pub unwrap-requires-2 : goal.unwrap-requires-2
unwrap-requires-2 c =
    first_done (hub_model actors_in c.unwrap-hub.result) c.enrol.result
    (opens _ c.unwrap.result c.unwrap.ensures c.open.ensures.answer _ c.unwrap-hub.result c.unwrap-hub.ensures c.open-2.ensures.answer)
    c.enrol.ensures.answer

pub unwrap-requires-3 : goal.unwrap-requires-3
unwrap-requires-3 c =
    second_done (hub_model actors_in c.enrol.new.self) c.enrol-2.result
    (first_leaves (hub_model actors_in c.unwrap-hub.result) _
    (opens _ c.unwrap.result c.unwrap.ensures c.open.ensures.answer _ c.unwrap-hub.result c.unwrap-hub.ensures c.open-2.ensures.answer)
    c.enrol.ensures.after)
    c.enrol-2.ensures.answer

pub returns : goal.returns
returns c =
    second_leaves (hub_model actors_in c.enrol.new.self) _
    (first_leaves (hub_model actors_in c.unwrap-hub.result) _
    (opens _ c.unwrap.result c.unwrap.ensures c.open.ensures.answer _ c.unwrap-hub.result c.unwrap-hub.ensures c.open-2.ensures.answer)
    c.enrol.ensures.after)
    c.enrol-2.ensures.after
