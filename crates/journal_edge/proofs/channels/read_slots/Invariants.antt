use Rattle.std.proofs.Common.{◌≡◌, ◌-◌, length}
use Rattle.journal_edge.specs.EdgeChecking.{slots_read, slots_leave}
use Rattle.journal_edge.proofs.Walks.{read_from, leave_from}
use Rattle.journal_edge.proofs.channels.read_slots.Given as goal

abbrev pub invariant-loop-at : goal.invariant-loop-at
invariant-loop-at l = record {
  read : read_from l.from l.at l.flows l.channels.items ≡ slots_read l.fn.from 0 l.fn.flows l.fn.channels.items;
  left : leave_from l.from l.at l.flows l.channels.items ≡ slots_leave l.fn.from 0 l.fn.flows l.fn.channels.items;
}

abbrev pub decreases-loop-at : goal.decreases-loop-at
decreases-loop-at l = length l.channels.items - l.at
