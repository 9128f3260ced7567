use Rattle.std.proofs.Common.{◌≡◌, None, take}
use Rattle.std.specs.List.{All}
use Rattle.harq.specs.Sending.{held_of}
use Rattle.l2_node.proofs.finding.is_any_held.Given as goal

abbrev pub invariant-loop-process : goal.invariant-loop-process
invariant-loop-process l = All (λ p. held_of l.sender p ≡ None) (take l.process-index l.processes)
