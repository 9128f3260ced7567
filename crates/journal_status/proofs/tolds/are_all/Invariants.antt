use Rattle.std.proofs.Common.{◌≡◌, ◌-◌, length}
use Rattle.journal_status.specs.StatusChecking.{all_told, ignored_at}
use Rattle.journal_status.proofs.StatusChannels.{told_from}
use Rattle.journal_status.proofs.tolds.are_all.Given as goal

abbrev pub invariant-loop-at : goal.invariant-loop-at
invariant-loop-at l =
    told_from (ignored_at l.fn.side l.fn.flows) l.at l.fn.tolds.items
    ≡ all_told (ignored_at l.fn.side l.fn.flows) 0 l.fn.tolds.items

abbrev pub decreases-loop-at : goal.decreases-loop-at
decreases-loop-at l = length l.fn.tolds.items - l.at
