use Rattle.std.proofs.Common.{◌≡◌, None, replicate}
use Rattle.journal_sent.proofs.flows.no_flows.Given as goal

abbrev pub invariant-loop-i : goal.invariant-loop-i
invariant-loop-i l = l.flows.items ≡ replicate l._i None
