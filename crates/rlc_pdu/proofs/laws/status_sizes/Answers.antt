use Rattle.rlc_pdu.proofs.Again.{entry_sizes}
use Rattle.rlc_pdu.proofs.laws.status_sizes.Goals as goal

pub returns : goal.returns
returns c = entry_sizes
