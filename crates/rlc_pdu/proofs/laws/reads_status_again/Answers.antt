use Rattle.rlc_pdu.proofs.Again.{status_again}
use Rattle.rlc_pdu.proofs.laws.reads_status_again.Goals as goal

pub returns : goal.returns
returns c = status_again
