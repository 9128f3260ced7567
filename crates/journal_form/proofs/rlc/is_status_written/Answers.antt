use Rattle.std.proofs.Common.{sym, arith}
use Rattle.rlc_pdu.specs.Views.{status_of}
use Rattle.journal_form.proofs.Filled.{status_filler, status_tested}
use Rattle.journal_form.proofs.rlc.is_status_written.Goals as goal

pub used_bits-bits-requires : goal.used_bits-bits-requires
used_bits-bits-requires c =
    omega (arith, (status_filler (status_of c.args.status) c.args.octets.now c.requires.read).within, c.requires.short)

pub overflow_sub-octets : goal.overflow_sub-octets
overflow_sub-octets c =
    omega (
      arith,
      (status_filler (status_of c.args.status) c.args.octets.now c.requires.read).within,
      c.used_bits-bits.ensures,
    )

pub field-requires-clause-few : goal.field-requires-clause-few
field-requires-clause-few c =
    omega (
      arith,
      (status_filler (status_of c.args.status) c.args.octets.now c.requires.read).few,
      c.used_bits-bits.ensures,
    )

pub field-requires-clause-within : goal.field-requires-clause-within
field-requires-clause-within c =
    omega (
      arith,
      (status_filler (status_of c.args.status) c.args.octets.now c.requires.read).within,
      c.used_bits-bits.ensures,
    )

pub returns : goal.returns
returns c =
    sym (status_tested (status_of c.args.status) c.args.octets.now c.used_bits-bits.result c.field.result
    c.requires.read c.used_bits-bits.ensures c.field.ensures.number)
