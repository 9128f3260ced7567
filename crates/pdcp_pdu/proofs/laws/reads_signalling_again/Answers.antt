use Rattle.pdcp_pdu.proofs.SrbLaws.{srb_again}
use Rattle.pdcp_pdu.proofs.laws.reads_signalling_again.Goals as goal

pub returns : goal.returns
returns c = srb_again
