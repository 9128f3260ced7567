use Rattle.std.proofs.Common.{ap, sym, arith}
use Rattle.std.specs.Prelude.{true}
use Rattle.air_run.specs.Journal.{script}
use Rattle.line_player.specs.Journal.{journal_from}
use Rattle.air_run.specs.Run.{RunState}
use Rattle.line_player.specs.Plays.{state_of}
use Rattle.l2_commands.specs.Journals.{summing}
use Rattle.l2_commands.proofs.Passing.{goes-on, goes-over, is-refused, are-many, is-over}
use Rattle.l2_commands.proofs.summing.pass_lines.Goals as goal

pub loop-number-init : goal.loop-number-init
loop-number-init c = record {
  goes = λ octets said. record {
    rest = octets;
    said = said;
    left = ap (λ (s : RunState). journal_from summing true s 1 octets) (sym c.requires);
  };
  few = omega arith;
}

pub returns-in_default-next : goal.returns-in_default-next
returns-in_default-next c octets said =
    is-over octets c.loop-number.lines (state_of script c.loop-number.run) c.loop-number.number
    (c.loop-number.invariant.goes octets said) (rw c.in_default-next.is at c.in-Ok.ensures.line)

pub returns-then-number-gt-MOST_LINES : goal.returns-then-number-gt-MOST_LINES
returns-then-number-gt-MOST_LINES c octets said =
    let is = rw c.in-Some.is at c.in-Ok.ensures.line in
    are-many octets c.in-Some.line c.loop-number.lines c.next.new.self (state_of script c.loop-number.run)
    (state_of script c.loop-number.run) c.loop-number.number
    (c.loop-number.invariant.goes octets said) is (omega arith)

pub returns-in-Ended : goal.returns-in-Ended
returns-in-Ended c octets said =
    let is = rw c.in-Some.is at c.in-Ok.ensures.line in
    goes-over octets c.in-Some.line c.loop-number.lines c.next.new.self (state_of script c.loop-number.run)
    (state_of script c.pass_line.new.run) c.loop-number.number
    (c.loop-number.invariant.goes octets said) is (omega arith) (c.in-Ended.ensures c.loop-number.number)

pub returns-in-Refused : goal.returns-in-Refused
returns-in-Refused c octets said =
    let is = rw c.in-Some.is at c.in-Ok.ensures.line in
    is-refused octets c.in-Some.line c.loop-number.lines c.next.new.self (state_of script c.loop-number.run)
    (state_of script c.pass_line.new.run) c.loop-number.number c.in-Refused.reason
    (c.loop-number.invariant.goes octets said) is (omega arith) (c.in-Refused.ensures c.loop-number.number)

pub loop-number-preserved : goal.loop-number-preserved
loop-number-preserved c =
    let is = rw c.in-Some.is at c.in-Ok.ensures.line in
    record {
      goes = λ octets said.
          goes-on octets c.in-Some.line c.loop-number.lines c.next.new.self (state_of script c.loop-number.run)
          (state_of script c.pass_line.new.run) c.loop-number.number
          (c.loop-number.invariant.goes octets said) is (omega arith) (c.in-Next.ensures c.loop-number.number);
      few = omega arith;
    }
