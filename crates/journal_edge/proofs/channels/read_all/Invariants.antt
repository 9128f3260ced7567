use Rattle.std.proofs.Common.{◌≡◌, length}
use Rattle.journal_edge.specs.EdgeFlow.{flow_all_read}
use Rattle.journal_edge.specs.EdgeChecking.{ready_at, octets_at, all_taken}
use Rattle.journal_edge.proofs.channels.read_all.Given as goal

abbrev pub invariant-loop-sdu : goal.invariant-loop-sdu
invariant-loop-sdu l = record {
  read : flow_all_read (octets_at l.from l.lcid l.flows) l.flow
      ≡ flow_all_read (octets_at l.fn.from l.fn.lcid l.fn.flows) l.fn.flow;
  taken : all_taken l.from l.lcid l.flows ≡ all_taken l.fn.from l.fn.lcid l.fn.flows;
}

abbrev pub decreases-loop-sdu : goal.decreases-loop-sdu
decreases-loop-sdu l = length (ready_at l.from l.lcid l.flows)
