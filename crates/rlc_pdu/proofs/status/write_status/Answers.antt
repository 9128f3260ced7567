use Rattle.rlc_pdu.proofs.EntriesWritten.{status_size_is}
use Rattle.rlc_pdu.proofs.status.write_status.Goals as goal

pub returns-clause-size : goal.returns-clause-size
returns-clause-size c = status_size_is c.in_ok-pdu.pdu c.args.ack c.args.nacks.now c.in_ok-pdu.ensures
