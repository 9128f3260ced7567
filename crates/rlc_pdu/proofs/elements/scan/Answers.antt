use Rattle.std.proofs.Common.{sym, ◌∙◌, arith}
use Rattle.rlc_pdu.proofs.Steps.{scan_step, scan_cut, scan_end, scan_short, zero_within}
use Rattle.rlc_pdu.specs.Units.{Unit as Extension}
use Rattle.rlc_pdu.proofs.elements.scan.Goals as goal

pub returns-in_default-clause-read : goal.returns-in_default-clause-read
returns-in_default-clause-read c =
    let l = c.loop-follows in
    sym (scan_cut l.zero l.k l.odd l.rest.now (sym c.in_default.ensures.read))
    ∙ (rw c.loop-follows-test.true at l.invariant.0)

pub loop-follows-preserved : goal.loop-follows-preserved
loop-follows-preserved c =
    let l = c.loop-follows in
    let a = c.in-Some in
    let u : Extension = record { len = a.len; more = a.more; rest = a.behind.now } in
    let step = scan_step l.zero l.k l.odd l.rest.now u (sym a.ensures.read) in
    let less = a.ensures.less in
    rw c.first_zero-zero.ensures.first (
      sym step ∙ (rw c.loop-follows-test.true at l.invariant.0),
      omega (arith, less, l.invariant.1),
      zero_within l.zero _ l.k _ l.invariant.2 (omega (arith, l.invariant.1)),
    )

pub returns-in-None-clause-read : goal.returns-in-None-clause-read
returns-in-None-clause-read c =
    let l = c.loop-follows in
    sym (scan_short l.zero l.k l.odd l.rest.now (sym c.in-None.ensures.read))
    ∙ (rw c.loop-follows-test.false at l.invariant.0)

pub returns-in-Some-field-clause-read : goal.returns-in-Some-field-clause-read
returns-in-Some-field-clause-read c =
    let l = c.loop-follows in
    sym (scan_end l.zero l.k l.odd l.rest.now c.in-Some-field.field.now (sym c.in-Some-field.ensures.read))
    ∙ (rw c.loop-follows-test.false at l.invariant.0)
