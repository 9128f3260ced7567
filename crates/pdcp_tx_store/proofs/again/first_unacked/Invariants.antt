use Rattle.std.proofs.Common.{◌≡◌}
use Rattle.std.specs.VecDeque.Iter.{deque_iter_rest}
use Rattle.pdcp_tx_store.specs.Given.{first_unacked, data_of}
use Rattle.pdcp_tx_store.proofs.again.first_unacked.Given as goal

abbrev pub invariant-loop-entry : goal.invariant-loop-entry
invariant-loop-entry l = first_unacked (data_of (deque_iter_rest l.entry-iterator))
    ≡ first_unacked (data_of l.ring.items)
