use Rattle.mac_pdu.proofs.Canonical.{one_list}
use Rattle.mac_pdu.proofs.laws.reads_one_list.Goals as goal

pub returns : goal.returns
returns c = one_list
