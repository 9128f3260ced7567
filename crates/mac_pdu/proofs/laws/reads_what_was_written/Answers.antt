use Rattle.mac_pdu.proofs.Canonical.{written}
use Rattle.mac_pdu.proofs.laws.reads_what_was_written.Goals as goal

pub returns : goal.returns
returns c = written
