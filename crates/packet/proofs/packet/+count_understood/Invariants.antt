use Rattle.std.proofs.Common.{length}
use Rattle.packet.proofs.packet.+count_understood.Given as goal

abbrev pub decreases-count_understood : goal.decreases-count_understood
decreases-count_understood l = length l.rest.now
