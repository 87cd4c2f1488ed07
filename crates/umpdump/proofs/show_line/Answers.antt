use native.Mathlib.Nat.{sub-zero}
use Rattle.umpdump.proofs.show_line.Goals as goal

pub show_messages-requires : goal.show_messages-requires
show_messages-requires g c = simp sub-zero c.in-Ok.ensures.whole.1
