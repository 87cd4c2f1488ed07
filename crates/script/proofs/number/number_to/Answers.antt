use Rattle.std.proofs.Common.{sym, ◌∙◌, arith, rules}
use Rattle.script.proofs.Digits.{all_read, more_at, number_is, stop_at}
use Rattle.script.proofs.number.number_to.Goals as goal

pub returns-in_err-n : goal.returns-in_err-n
returns-in_err-n c =
    let s = c.args.word.now in
    let stopped = stop_at c.args.base c.requires c.args.most c.loop-c.n s c.loop-c.c-index c.loop-c-test.true (sym c.in_err-n.ensures.answer) in
    record { answer = c.from_residual.ensures ∙ sym stopped ∙ c.loop-c.invariant.1 ∙ number_is c.args.base c.args.most s c.if-is_empty.ensures; within = search rules }

pub loop-c-preserved : goal.loop-c-preserved
loop-c-preserved c =
    let s = c.args.word.now in
    let n = c.in_ok-n.ensures in
    (n.within, sym (more_at c.args.base c.args.most c.loop-c.n s c.loop-c.c-index c.in_ok-n.n c.loop-c-test.true (sym n.answer)) ∙ c.loop-c.invariant.1)

pub returns : goal.returns
returns c =
    let s = c.args.word.now in
    let n = c.loop-c.n in
    record {
      answer = sym (all_read c.args.base c.args.most n s c.loop-c.c-index c.loop-c.invariant.0 (omega arith)) ∙ c.loop-c.invariant.1 ∙ number_is c.args.base c.args.most s c.if-is_empty.ensures;
      within = c.loop-c.invariant.0;
    }
