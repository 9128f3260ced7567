use Rattle.rlc_pdu.proofs.Again.{amd_again}
use Rattle.rlc_pdu.proofs.laws.reads_amd_again.Goals as goal

pub returns : goal.returns
returns c = amd_again
