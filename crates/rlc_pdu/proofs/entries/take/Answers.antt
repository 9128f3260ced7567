use Rattle.std.proofs.Common.{arith}
use Rattle.rlc_pdu.proofs.EntrySteps.{field_there, field_cut}
use Rattle.rlc_pdu.proofs.entries.take.Goals as goal

pub returns-then-octets-at-clause-read : goal.returns-then-octets-at-clause-read
returns-then-octets-at-clause-read c =
    field_cut c.args.octets.now c.args.at c.args.n c.requires.within c.if-octets-at.true

pub returns-clause-read : goal.returns-clause-read
returns-clause-read c =
    field_there c.args.octets.now c.args.at c.args.n c.field.result (omega (arith, c.if-octets-at.false))
    c.field.ensures.number
