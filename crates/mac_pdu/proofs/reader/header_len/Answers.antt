use Rattle.std.proofs.Common.{length, sym, ◌∙◌, arith}
use Rattle.std.proofs.lemmas.List.{length-drop}
use Rattle.mac_pdu.proofs.Steps.{size_on, size_last, fault_end, fault_on, fault_last, fault_here, not_true, not_false}
use Rattle.mac_pdu.proofs.reader.header_len.Goals as goal

pub returns : goal.returns
returns c =
    let l = c.loop-one in
    record {
      fault = sym l.invariant.2
          ∙ fault_end c.args.direction l.rest.now l.at l.stage (length c.args.block.now)
          (sym c.in_default.ensures.read);
    }

pub returns-in-Some-fault : goal.returns-in-Some-fault
returns-in-Some-fault c =
    let l = c.loop-one in
    record {
      fault = sym l.invariant.2
          ∙ fault_here c.args.direction l.rest.now l.at l.stage (length c.args.block.now) c.in-Some.one
          c.in-Some-fault.why (sym c.in-Some.ensures.read) (sym c.in-Some-fault.ensures);
    }

pub returns-then-not-one : goal.returns-then-not-one
returns-then-not-one c =
    let l = c.loop-one in
    let s = c.in-Some.one in
    let read = sym c.in-Some.ensures.read in
    let size = size_last c.args.direction l.rest.now s read (not_true s.more c.if-not-one.true) in
    let within = c.in-Some.ensures.whole in
    record {
      fault = (
        sym l.invariant.2 ∙ fault_last c.args.direction l.rest.now l.at l.stage (length c.args.block.now) s read
            (not_true s.more c.if-not-one.true) (sym c.in_default-fault.ensures),
        omega (arith, size, l.invariant.1),
        omega (arith, within, l.invariant.0),
      );
    }

pub loop-one-preserved : goal.loop-one-preserved
loop-one-preserved c =
    let l = c.loop-one in
    let s = c.in-Some.one in
    let read = sym c.in-Some.ensures.read in
    let size = size_on c.args.direction l.rest.now s read (not_false s.more c.if-not-one.false) in
    let fault = fault_on c.args.direction l.rest.now l.at l.stage (length c.args.block.now) s read
    (not_false s.more c.if-not-one.false) (sym c.in_default-fault.ensures) in
    let within = c.in-Some.ensures.whole in
    rw (c.split_at.ensures.back, c.next_stage-stage.ensures) (
      omega (arith, length-drop s.size l.rest.now, within, l.invariant.0),
      omega (arith, size, l.invariant.1),
      sym fault ∙ l.invariant.2,
    )
