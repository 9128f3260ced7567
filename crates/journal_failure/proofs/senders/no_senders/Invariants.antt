use Rattle.std.proofs.Common.{◌≡◌, replicate}
use Rattle.journal_failure.specs.Checking.{nothing_told}
use Rattle.journal_failure.proofs.senders.no_senders.Given as goal

abbrev pub invariant-loop-i : goal.invariant-loop-i
invariant-loop-i l = l.senders.items ≡ replicate l._i nothing_told
