use Rattle.std.proofs.Common.{◌≡◌, replicate}
use Rattle.journal_queues.specs.Leaving.{no_bearer}
use Rattle.journal_queues.proofs.channels.no_channels.Given as goal

abbrev pub invariant-loop-i : goal.invariant-loop-i
invariant-loop-i l = l.channels.items ≡ replicate l._i no_bearer
