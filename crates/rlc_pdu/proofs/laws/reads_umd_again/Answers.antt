use Rattle.rlc_pdu.proofs.Again.{umd_again}
use Rattle.rlc_pdu.proofs.laws.reads_umd_again.Goals as goal

pub returns : goal.returns
returns c = umd_again
