use Rattle.std.proofs.Common.{subst, sym, ◌∙◌}
use Rattle.std.specs.Io.BufRead.{FillKeeps}
use Rattle.stage.proofs.Reading.{front_passed, front_skipped}
use Rattle.stage.proofs.lines.pass_over.Goals as goal

pub returns-then-lines-eq0 : goal.returns-then-lines-eq0
returns-then-lines-eq0 g c =
    front_skipped _ _ _ c.in-Ok.bytes.now (sym c.passes_first.ensures ∙ c.if-not-passes_first.false) c.in-Ok.ensures.front c.fill_buf.follows.holds-at-none.0 c.in_ok-skip_until.ensures.rest

pub returns : goal.returns
returns g c =
    let bytes = c.in-Ok.bytes.now in
    let ahead = c.passed_ahead-length in
    let rested = c.fill_buf.follows.lender-at-none in
    let filled = subst (FillKeeps _ (g.R.Read.remaining rested) (g.R.BufRead.consumable_len rested)) c.in-Ok.is c.fill_buf.follows.holds-at-none in
    front_passed _ _ _ _ bytes ahead.result.1 ahead.result.0 c.if-lines-eq0.false ahead.ensures.within ahead.ensures.lines c.in-Ok.ensures.front filled.0 filled.1 c.consume.ensures.bytes
