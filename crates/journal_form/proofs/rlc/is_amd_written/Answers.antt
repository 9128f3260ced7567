use Rattle.std.proofs.Common.{◌≡◌, ◌&&◌, Bool, sym, ap, ◌∙◌, subst, arith, IfOk}
use Rattle.rlc_pdu.specs.Views.{elements_of, amd_of}
use Rattle.promises.specs.Names.{whole_sdus}
use Rattle.journal_form.specs.Tests.{are_pdcp}
use Rattle.journal_form.proofs.Filled.{amd_units, amd_tested}
use Rattle.journal_form.proofs.rlc.is_amd_written.Goals as goal

pub count_of-count-requires : goal.count_of-count-requires
count_of-count-requires c =
    omega (arith, (amd_units (amd_of c.args.amd) c.args.octets.now c.requires.read).few, c.requires.short)

pub is_filled-requires-clause-some : goal.is_filled-requires-clause-some
is_filled-requires-clause-some c =
    omega (arith, (amd_units (amd_of c.args.amd) c.args.octets.now c.requires.read).some, c.count_of-count.ensures)

pub is_filled-requires-clause-short : goal.is_filled-requires-clause-short
is_filled-requires-clause-short c =
    omega (
      arith,
      (amd_units (amd_of c.args.amd) c.args.octets.now c.requires.read).few,
      c.requires.short,
      c.count_of-count.ensures,
    )

pub is_filled-requires-clause-within : goal.is_filled-requires-clause-within
is_filled-requires-clause-within c =
    omega (
      arith,
      (amd_units (amd_of c.args.amd) c.args.octets.now c.requires.read).within,
      c.amd_size.ensures,
      c.count_of-count.ensures,
    )

pub returns-then-not-is_filled : goal.returns-then-not-is_filled
returns-then-not-is_filled c =
    sym (amd_tested c.args.kind (amd_of c.args.amd) c.args.octets.now c.amd_size.result c.count_of-count.result
    c.is_filled.result c.requires.read c.amd_size.ensures c.count_of-count.ensures c.is_filled.ensures
    ∙ ap (λ (b : Bool). b && are_pdcp c.args.kind (whole_sdus c.args.amd.fi (elements_of c.args.amd.elements)))
    c.if-not-is_filled.true)

pub returns : goal.returns
returns c =
    subst (λ (b : Bool). IfOk c.are_pdcp.result (λ yes. yes ≡ b))
    (sym (amd_tested c.args.kind (amd_of c.args.amd) c.args.octets.now c.amd_size.result c.count_of-count.result
    c.is_filled.result c.requires.read c.amd_size.ensures c.count_of-count.ensures c.is_filled.ensures
    ∙ ap (λ (b : Bool). b && are_pdcp c.args.kind (whole_sdus c.args.amd.fi (elements_of c.args.amd.elements)))
    c.if-not-is_filled.false)) c.are_pdcp.ensures
