use Rattle.std.proofs.Common.{◌≡◌, ◌<◌, ◌++◌, length, List, ℕ, IfSome, subst, arith}
use Rattle.std.specs.Io.BufRead.{take_through}
use Rattle.stage.proofs.Reading.{taken}
use Rattle.stage.proofs.lines.Lines.take.Goals as goal

pub returns : goal.returns
returns g c =
    let old = g.R.Read.remaining c.args.self.now.reader in
    let read = c.read_until.new.buf.items in
    let bytes = subst (λ (before : List ℕ). IfSome old (λ xs. read ≡ before ++ take_through 10 xs)) c.clear.ensures.items c.in_ok-read_until.ensures.bytes in
    let before = c.clear.ensures.len in
    let long = c.read_until.new.buf.ok.0 in
    let count = c.in_ok-read_until.ensures.ok in
    let none = c.if-branch-eq0.false in
    let some : 0 < length read = omega (arith, count, none, long, before) in
    taken old (g.R.Read.remaining c.read_until.new.self) read c.strip.new.line.items bytes c.in_ok-read_until.ensures.rest c.strip.ensures some
