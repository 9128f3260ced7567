use Rattle.std.proofs.Common.{length}
use Rattle.pdu_show.proofs.decoder.clear.Given as goal

abbrev pub decreases-loop : goal.decreases-loop
decreases-loop l = length l.records
