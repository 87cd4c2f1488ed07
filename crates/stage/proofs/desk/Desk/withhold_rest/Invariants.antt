use Rattle.std.proofs.Common.{vec_len}
use Rattle.stage.proofs.desk.Desk.withhold_rest.Given as goal

abbrev pub decreases-loop-slip : goal.decreases-loop-slip
decreases-loop-slip g l = vec_len l.self.held
