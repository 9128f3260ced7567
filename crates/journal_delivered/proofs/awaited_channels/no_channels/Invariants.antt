use Rattle.std.proofs.Common.{◌≡◌, replicate, None}
use Rattle.journal_delivered.proofs.awaited_channels.no_channels.Given as goal

abbrev pub invariant-loop-i : goal.invariant-loop-i
invariant-loop-i l = l.channels.items ≡ replicate l._i None
