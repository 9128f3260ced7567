use Rattle.std.proofs.Common.{arith}
use Rattle.pdcp_pdu.proofs.Told.{srb_in_grammar, srb_is_read, srb_is_refused}
use Rattle.pdcp_pdu.proofs.signalling.read_srb.Goals as goal

pub returns-clause-found : goal.returns-clause-found
returns-clause-found c =
    srb_in_grammar c.args.from.now c.read.result c.read.ensures (λ i. omega (arith, c.type_inv.from i))

pub returns-clause-only : goal.returns-clause-only
returns-clause-only c = srb_is_read c.args.from.now c.read.result c.read.ensures

pub returns-clause-refused : goal.returns-clause-refused
returns-clause-refused c = srb_is_refused c.args.from.now c.read.result c.read.ensures
