use Rattle.std.proofs.Common.{sym, ◌∙◌, arith}
use Rattle.std.proofs.lemmas.List.{length-drop}
use Rattle.mac_pdu.proofs.Steps.{overrun_end, overrun_here, overrun_on, overrun_last}
use Rattle.mac_pdu.proofs.reader.first_overrun.Goals as goal

pub returns-then-payloads-n-clause-at : goal.returns-then-payloads-n-clause-at
returns-then-payloads-n-clause-at c =
    let l = c.loop-one in
    let lt = rw c.payload_size-n.ensures at c.if-payloads-n.true in
    sym (overrun_here c.args.direction l.headers.now l.at l.payloads.now c.in-Some.one (sym c.in-Some.ensures.read)
    lt) ∙ l.invariant.1

pub returns-then-not-one-clause-at : goal.returns-then-not-one-clause-at
returns-then-not-one-clause-at c =
    let l = c.loop-one in
    let le = rw c.payload_size-n.ensures at c.if-payloads-n.false in
    sym (overrun_last c.args.direction l.headers.now l.at l.payloads.now c.in-Some.one (sym c.in-Some.ensures.read)
    c.if-not-one.true le) ∙ l.invariant.1

pub loop-one-preserved : goal.loop-one-preserved
loop-one-preserved c =
    let l = c.loop-one in
    let le = rw c.payload_size-n.ensures at c.if-payloads-n.false in
    let on = overrun_on c.args.direction l.headers.now l.at l.payloads.now c.in-Some.one (sym c.in-Some.ensures.read)
    c.if-not-one.false le in
    let within = c.in-Some.ensures.whole in
    let s = c.in-Some.one in
    rw (c.split_at.ensures.back, c.split_at-in-Some.ensures.back, c.payload_size-n.ensures)
    (omega (arith, length-drop s.size l.headers.now, within, l.invariant.0), sym on ∙ l.invariant.1)

pub returns-clause-at : goal.returns-clause-at
returns-clause-at c =
    let l = c.loop-one in
    sym (overrun_end c.args.direction l.headers.now l.at l.payloads.now (sym c.in_default.ensures.read)) ∙ l.invariant.1
