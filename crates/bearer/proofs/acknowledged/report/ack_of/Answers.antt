use Rattle.std.proofs.Common.{sym, arith}
use Rattle.bearer.proofs.StatusOctets.{octets_again}
use Rattle.bearer.proofs.acknowledged.report.ack_of.Goals as goal

pub returns-clause-octets : goal.returns-clause-octets
returns-clause-octets c = sym (octets_again c.args.pdu.now (λ i. omega (arith, c.type_inv.pdu i)))
