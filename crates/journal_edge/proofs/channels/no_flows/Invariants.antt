use Rattle.std.proofs.Common.{◌≡◌, None, replicate}
use Rattle.journal_edge.proofs.channels.no_flows.Given as goal

abbrev pub invariant-loop-i : goal.invariant-loop-i
invariant-loop-i l = l.channels.items ≡ replicate l._i None
