use Rattle.std.proofs.Common.{◌≡◌, ◌-◌, drop, length}
use Rattle.journal_status.specs.StatusChecking.{all_true}
use Rattle.journal_status.proofs.reports.all_true.Given as goal

abbrev pub invariant-loop-at : goal.invariant-loop-at
invariant-loop-at l =
    all_true l.fn.flows.journal.flows l.fn.from (drop l.at l.fn.parcels)
    ≡ all_true l.fn.flows.journal.flows l.fn.from l.fn.parcels

abbrev pub decreases-loop-at : goal.decreases-loop-at
decreases-loop-at l = length l.fn.parcels - l.at
