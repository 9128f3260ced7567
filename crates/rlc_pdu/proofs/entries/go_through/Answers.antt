use Rattle.std.proofs.Common.{◌∙◌, ◌+◌, sym, drop, arith}
use Rattle.l2_bits.specs.Bits.{bits_of}
use Rattle.rlc_pdu.proofs.EntrySteps.{step_through, cut_through, end_through, place_within}
use Rattle.rlc_pdu.proofs.entries.go_through.Goals as goal

pub returns-in_default-clause-read : goal.returns-in_default-clause-read
returns-in_default-clause-read c =
    let l = c.loop-follows in
    sym (cut_through l.backwards l.next (drop l.next (bits_of c.args.octets.now)) (sym c.in_default.ensures.read))
    ∙ (rw c.loop-follows-test.true at l.invariant.0)

pub loop-follows-preserved : goal.loop-follows-preserved
loop-follows-preserved c =
    let l = c.loop-follows in
    let e = c.in-Some.found in
    let s = step_through l.backwards l.next e.nack e.more (drop e.next (bits_of c.args.octets.now))
    (drop l.next (bits_of c.args.octets.now)) (sym c.in-Some.ensures.read) in
    let s' = rw (sym c.in-Some.ensures.size) at s in
    rw c.first_backwards-backwards.ensures.first (
      sym s' ∙ (rw c.loop-follows-test.true at l.invariant.0),
      c.in-Some.ensures.behind.1,
      place_within l.backwards _ (l.next + 12) _ l.invariant.2
          (omega (arith, c.in-Some.ensures.behind.0, c.in-Some.ensures.behind.1)),
    )

pub returns-clause-read : goal.returns-clause-read
returns-clause-read c =
    let l = c.loop-follows in
    sym (end_through l.backwards l.next (drop l.next (bits_of c.args.octets.now)))
    ∙ (rw c.loop-follows-test.false at l.invariant.0)
