use Rattle.std.proofs.Common.{arith}
use Rattle.pdcp_pdu.proofs.Told.{user_in_grammar, user_is_read, user_is_refused}
use Rattle.pdcp_pdu.proofs.reading.read_user.Goals as goal

pub returns-clause-found : goal.returns-clause-found
returns-clause-found c =
    user_in_grammar c.args.bits c.args.from.now c.read.result c.requires c.read.ensures
    (λ i. omega (arith, c.type_inv.from i))

pub returns-clause-only : goal.returns-clause-only
returns-clause-only c = user_is_read c.args.bits c.args.from.now c.read.result c.requires c.read.ensures

pub returns-clause-refused : goal.returns-clause-refused
returns-clause-refused c = user_is_refused c.args.bits c.args.from.now c.read.result c.requires c.read.ensures
