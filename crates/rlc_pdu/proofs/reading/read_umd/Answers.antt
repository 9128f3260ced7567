use Rattle.std.proofs.Common.{arith}
use Rattle.rlc_pdu.proofs.Told.{umd_in_grammar, umd_is_read, umd_is_refused}
use Rattle.rlc_pdu.proofs.reading.read_umd.Goals as goal

pub returns-clause-found : goal.returns-clause-found
returns-clause-found c =
    umd_in_grammar c.args.bits c.args.from.now c.umd_of_octets.result c.requires.bits c.umd_of_octets.ensures.exact
    (λ i. omega (arith, c.type_inv.from i))

pub returns-clause-only : goal.returns-clause-only
returns-clause-only c =
    umd_is_read c.args.bits c.args.from.now c.umd_of_octets.result c.requires.bits c.umd_of_octets.ensures.exact

pub returns-clause-refused : goal.returns-clause-refused
returns-clause-refused c =
    umd_is_refused c.args.bits c.args.from.now c.umd_of_octets.result c.requires.bits c.umd_of_octets.ensures.exact
