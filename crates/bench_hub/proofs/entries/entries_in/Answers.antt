use Rattle.std.proofs.Common.{◌≡◌, length, refl, arith}
use Rattle.bench_hub.proofs.Reading.{all_kept, none_kept, word_kept}
use Rattle.bench_hub.proofs.entries.entries_in.Goals as goal

pub loop-left-preserved : goal.loop-left-preserved
loop-left-preserved c =
    word_kept c.loop-left.entries.items _ c.loop-left.left.now _ c.from_le_bytes.result _ c.push.ensures.items c.from_le_bytes.ensures c.in-len2-up.len_at_least refl c.loop-left.invariant

pub returns-in_default : goal.returns-in_default
returns-in_default c = all_kept c.loop-left.entries.items c.loop-left.left.now _ c.in_default.len_below c.is_full.ensures.fits c.loop-left.invariant

pub returns-after-loop-left : goal.returns-after-loop-left
returns-after-loop-left c =
    let full : length c.loop-left.entries.items ≡ 65 = grind arith in
    none_kept c.loop-left.entries.items c.loop-left.left.now _ full c.loop-left.invariant
