use Rattle.std.proofs.Common.{sym, ◌∙◌, arith}
use Rattle.rlc_pdu.proofs.Steps.{past_on, past_cut, past_end, past_here, some_on}
use Rattle.rlc_pdu.specs.Units.{Unit as Extension}
use Rattle.rlc_pdu.proofs.elements.first_past.Goals as goal

pub returns-in_default-clause-read : goal.returns-in_default-clause-read
returns-in_default-clause-read c =
    let l = c.loop-follows in
    sym (past_cut l.k l.odd l.rest.now l.left (sym c.in_default.ensures.read))
    ∙ (rw c.loop-follows-test.true at l.invariant.0)

pub returns-then-left-len-clause-read : goal.returns-then-left-len-clause-read
returns-then-left-len-clause-read c =
    let l = c.loop-follows in
    let a = c.in-Some in
    let u : Extension = record { len = a.len; more = a.more; rest = a.behind.now } in
    sym (past_here l.k l.odd l.rest.now u l.left (sym a.ensures.read) c.if-left-len.true
    (rw c.loop-follows-test.true at l.invariant.1)) ∙ (rw c.loop-follows-test.true at l.invariant.0)

pub loop-follows-preserved : goal.loop-follows-preserved
loop-follows-preserved c =
    let l = c.loop-follows in
    let a = c.in-Some in
    let u : Extension = record { len = a.len; more = a.more; rest = a.behind.now } in
    let step = past_on l.k l.odd l.rest.now u l.left (sym a.ensures.read) c.if-left-len.false in
    let some = some_on l.odd l.rest.now u (sym a.ensures.read) (rw c.loop-follows-test.true at l.invariant.1) in
    let less = a.ensures.less in
    (sym step ∙ (rw c.loop-follows-test.true at l.invariant.0), some, omega (arith, less, l.invariant.2))

pub returns-clause-read : goal.returns-clause-read
returns-clause-read c =
    let l = c.loop-follows in
    sym (past_end l.k l.odd l.rest.now l.left) ∙ (rw c.loop-follows-test.false at l.invariant.0)
