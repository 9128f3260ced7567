use Rattle.std.proofs.Common.{◌≡◌, ◌&&◌, Bool, sym, ap, ◌∙◌, subst, arith, IfOk}
use Rattle.rlc_pdu.specs.Views.{elements_of, umd_of}
use Rattle.promises.specs.Names.{whole_sdus}
use Rattle.journal_form.specs.Tests.{are_pdcp}
use Rattle.journal_form.proofs.Filled.{umd_units, umd_tested}
use Rattle.journal_form.proofs.rlc.is_umd_written.Goals as goal

pub count_of-count-requires : goal.count_of-count-requires
count_of-count-requires c =
    omega (
      arith,
      (umd_units c.args.bits (umd_of c.args.umd) c.args.octets.now c.requires.bits c.requires.read).few,
      c.requires.short,
    )

pub is_umd_filled-requires-clause-some : goal.is_umd_filled-requires-clause-some
is_umd_filled-requires-clause-some c =
    omega (
      arith,
      (umd_units c.args.bits (umd_of c.args.umd) c.args.octets.now c.requires.bits c.requires.read).some,
      c.count_of-count.ensures,
    )

pub is_umd_filled-requires-clause-short : goal.is_umd_filled-requires-clause-short
is_umd_filled-requires-clause-short c =
    omega (
      arith,
      (umd_units c.args.bits (umd_of c.args.umd) c.args.octets.now c.requires.bits c.requires.read).few,
      c.requires.short,
      c.count_of-count.ensures,
    )

pub is_umd_filled-requires-clause-within : goal.is_umd_filled-requires-clause-within
is_umd_filled-requires-clause-within c =
    omega (
      arith,
      (umd_units c.args.bits (umd_of c.args.umd) c.args.octets.now c.requires.bits c.requires.read).within,
      c.count_of-count.ensures,
    )

pub returns-then-not-is_umd_filled : goal.returns-then-not-is_umd_filled
returns-then-not-is_umd_filled c =
    sym (umd_tested c.args.kind c.args.bits (umd_of c.args.umd) c.args.octets.now c.count_of-count.result
    c.is_umd_filled.result c.requires.bits c.requires.read c.count_of-count.ensures c.is_umd_filled.ensures
    ∙ ap (λ (b : Bool). b && are_pdcp c.args.kind (whole_sdus c.args.umd.fi (elements_of c.args.umd.elements)))
    c.if-not-is_umd_filled.true)

pub returns : goal.returns
returns c =
    subst (λ (b : Bool). IfOk c.are_pdcp.result (λ yes. yes ≡ b))
    (sym (umd_tested c.args.kind c.args.bits (umd_of c.args.umd) c.args.octets.now c.count_of-count.result
    c.is_umd_filled.result c.requires.bits c.requires.read c.count_of-count.ensures c.is_umd_filled.ensures
    ∙ ap (λ (b : Bool). b && are_pdcp c.args.kind (whole_sdus c.args.umd.fi (elements_of c.args.umd.elements)))
    c.if-not-is_umd_filled.false)) c.are_pdcp.ensures
