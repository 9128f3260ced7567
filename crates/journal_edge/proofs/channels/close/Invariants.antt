use Rattle.std.proofs.Common.{◌≡◌, ◌-◌, length}
use Rattle.journal_edge.specs.EdgeChecking.{slots_closed}
use Rattle.journal_edge.proofs.Walks.{closed_from}
use Rattle.journal_edge.proofs.channels.close.Given as goal

abbrev pub invariant-loop-at : goal.invariant-loop-at
invariant-loop-at l =
    closed_from l.renewal l.at l.channels.items ≡ slots_closed l.fn.renewal l.fn.channels.items

abbrev pub decreases-loop-at : goal.decreases-loop-at
decreases-loop-at l = length l.channels.items - l.at
