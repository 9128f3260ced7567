use Rattle.std.proofs.Common.{◌≡◌, None, replicate}
use Rattle.journal_flows.proofs.sending.Sending.new.Given as goal

abbrev pub invariant-loop-i : goal.invariant-loop-i
invariant-loop-i l = l.held.items ≡ replicate l._i None
