use Rattle.std.proofs.Common.{◌∙◌}
use Rattle.hexadecimal.specs.Lines.{lines_of}
use Rattle.hub.specs.Memory.{hub_model}
use Rattle.hexline.specs.Lines.{heard_lines}
use Rattle.hexline.proofs.Heard.{told_more, left_more, told_all, left_all}
use Rattle.hexline.proofs.line.hear_all.Goals as goal

pub loop-line-preserved : goal.loop-line-preserved
loop-line-preserved g c =
    let m = g.S.ActorStore.meaning in
    let known = g.W.Write.contents in
    let h = hub_model m c.loop-line.hub in
    let k = hub_model m c.hear.new.hub in
    let line = c.in-Some.line.now in
    let s = lines_of c.loop-line.line-iterator in
    let t = lines_of c.next.new.self in (
      told_more h k line s t (known c.args.out.now) (known c.loop-line.out) (known c.writeln.new.self) (heard_lines (hub_model m c.args.hub.now) (lines_of c.args.text.now)) c.hear.result
          c.in-Some.ensures.steps.yields c.hear.ensures.answer c.hear.ensures.after c.in_ok-writeln.ensures.bytes c.loop-line.invariant.0,
      left_more h k line s t c.in-Some.ensures.steps.yields c.hear.ensures.after ∙ c.loop-line.invariant.1,
    )

pub returns-clause-told : goal.returns-clause-told
returns-clause-told g c =
    let m = g.S.ActorStore.meaning in
    let known = g.W.Write.contents in
    told_all (hub_model m c.loop-line.hub) (lines_of c.loop-line.line-iterator) (known c.args.out.now) (known c.loop-line.out) (heard_lines (hub_model m c.args.hub.now) (lines_of c.args.text.now))
    c.in-None.ensures.steps.yields.0 c.loop-line.invariant.0

pub returns-clause-after : goal.returns-clause-after
returns-clause-after g c =
    left_all (hub_model g.S.ActorStore.meaning c.loop-line.hub) (lines_of c.loop-line.line-iterator) c.in-None.ensures.steps.yields.0 ∙ c.loop-line.invariant.1
