use Rattle.pdcp_pdu.proofs.UserAccepts.{user_again}
use Rattle.pdcp_pdu.proofs.laws.reads_user_again.Goals as goal

pub returns : goal.returns
returns c = user_again
