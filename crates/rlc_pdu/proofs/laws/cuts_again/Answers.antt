use Rattle.rlc_pdu.proofs.Again.{cut_again}
use Rattle.rlc_pdu.proofs.laws.cuts_again.Goals as goal

pub returns : goal.returns
returns c = cut_again
