use Rattle.std.proofs.Common.{arith}
use Rattle.rlc_pdu.proofs.AmPdus.{am_in_grammar, am_is_read}
use Rattle.rlc_pdu.proofs.reading.read_am.Goals as goal

pub returns-clause-found : goal.returns-clause-found
returns-clause-found c =
    am_in_grammar c.args.from.now c.am_of_octets.result c.am_of_octets.ensures.exact
    (λ i. omega (arith, c.type_inv.from i))

pub returns-clause-only : goal.returns-clause-only
returns-clause-only c =
    am_is_read c.args.from.now c.am_of_octets.result c.am_of_octets.ensures.exact
    (λ i. omega (arith, c.type_inv.from i))
