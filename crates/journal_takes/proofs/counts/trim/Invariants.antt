use Rattle.std.proofs.Common.{◌≡◌, length}
use Rattle.journal_takes.specs.FlowTakes.{counts_from}
use Rattle.journal_takes.proofs.counts.trim.Given as goal

abbrev pub invariant-loop-count : goal.invariant-loop-count
invariant-loop-count l = counts_from l.low l.counts.keys ≡ counts_from l.low l.fn.counts.keys

abbrev pub decreases-loop-count : goal.decreases-loop-count
decreases-loop-count l = length l.counts.keys
