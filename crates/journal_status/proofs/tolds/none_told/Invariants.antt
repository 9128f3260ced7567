use Rattle.std.proofs.Common.{◌≡◌, replicate}
use Rattle.journal_status.proofs.tolds.none_told.Given as goal

abbrev pub invariant-loop-i : goal.invariant-loop-i
invariant-loop-i l = l.tolds.items ≡ replicate l._i 0
