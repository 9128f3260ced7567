use Rattle.std.proofs.Common.{◌≡◌, ◌+◌, length}
use Rattle.std.specs.VecDeque.Iter.{deque_iter_rest}
use Rattle.pdcp_tx_store.specs.Given.{data_of}
use Rattle.pdcp_tx_store.proofs.again.count_within.Given as goal

abbrev pub invariant-loop-entry : goal.invariant-loop-entry
invariant-loop-entry l = l.sum + length (data_of (deque_iter_rest l.entry-iterator)) ≡ length (data_of l.ring.items)
