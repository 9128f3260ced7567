use Rattle.std.proofs.Common.{◌≡◌, replicate}
use Rattle.journal_given.proofs.waits.no_counts.Given as goal

abbrev pub invariant-loop-i : goal.invariant-loop-i
invariant-loop-i l = l.counts.items ≡ replicate l._i 0
