use Rattle.std.proofs.Common.{◌≡◌, None, replicate}
use Rattle.journal_given.proofs.bearers.no_bearers.Given as goal

abbrev pub invariant-loop-i : goal.invariant-loop-i
invariant-loop-i l = l.bearers.items ≡ replicate l._i None
