use Rattle.std.proofs.Common.{◌≡◌}
use Rattle.hexadecimal.specs.Lines.{lines_of}
use Rattle.hub.specs.Memory.{hub_model}
use Rattle.hexline.specs.Lines.{after_lines, heard_lines}
use Rattle.hexline.proofs.Heard.{Writing}
use Rattle.hexline.proofs.line.hear_all.Given as goal

-- what the lines that are left add to what is written and leave of the hub, all of them add and leave from the start
abbrev pub invariant-loop-line : goal.invariant-loop-line
invariant-loop-line g l =
    let m = g.S.ActorStore.meaning in
    let known = g.W.Write.contents in
    Writing (known l.fn.out) (known l.out) (heard_lines (hub_model m l.hub) (lines_of l.line-iterator)) (heard_lines (hub_model m l.fn.hub) (lines_of l.text))
    × (after_lines (hub_model m l.hub) (lines_of l.line-iterator) ≡ after_lines (hub_model m l.fn.hub) (lines_of l.text))
