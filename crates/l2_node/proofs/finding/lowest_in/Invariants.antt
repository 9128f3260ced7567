use Rattle.std.proofs.Common.{◌≡◌, None, drop}
use Rattle.l2_node.specs.Finding.{lowest_of}
use Rattle.l2_node.proofs.finding.lowest_in.Given as goal

abbrev pub invariant-loop-process : goal.invariant-loop-process
invariant-loop-process l = lowest_of l.sender l.numbers l.lcid (drop l.process-index l.processes) l.found
    ≡ lowest_of l.sender l.numbers l.lcid l.processes None
