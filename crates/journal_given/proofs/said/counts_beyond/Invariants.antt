use Rattle.std.proofs.Common.{◌≡◌, ◌++◌}
use Rattle.journal_given.proofs.said.counts_beyond.Given as goal

abbrev pub invariant-loop-count : goal.invariant-loop-count
invariant-loop-count l = l.counts.items ++ l.count-iterator ≡ l.flow.come.beyond
