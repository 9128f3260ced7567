use Rattle.std.proofs.Common.{◌≡◌, ◌-◌, length}
use Rattle.journal_delivered.specs.DeliveryChecking.{came_at, ended_on}
use Rattle.journal_delivered.proofs.Channels.{ended_from}
use Rattle.journal_delivered.proofs.awaited_channels.end.Given as goal

abbrev pub invariant-loop-at : goal.invariant-loop-at
invariant-loop-at l =
    ended_from (came_at l.fn.side l.fn.flows) l.at l.channels.items
    ≡ ended_on l.fn.side l.fn.flows l.fn.channels.items

abbrev pub decreases-loop-at : goal.decreases-loop-at
decreases-loop-at l = length l.channels.items - l.at
