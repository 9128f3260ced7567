use Rattle.rlc_pdu.proofs.Again.{sizes}
use Rattle.rlc_pdu.proofs.laws.data_sizes.Goals as goal

pub returns : goal.returns
returns c = sizes
