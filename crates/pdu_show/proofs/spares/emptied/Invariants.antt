use Rattle.std.proofs.Common.{length}
use Rattle.pdu_show.proofs.spares.emptied.Given as goal

abbrev pub decreases-loop : goal.decreases-loop
decreases-loop g l = length l.list
