use Rattle.std.proofs.Common.{◌≡◌, ◌+◌}
use Rattle.std.specs.VecDeque.Iter.{deque_iter_rest}
use Rattle.pdcp_tx_store.specs.Given.{sent_octets, data_of}
use Rattle.pdcp_tx_store.proofs.again.octets_all.Given as goal

abbrev pub invariant-loop-entry : goal.invariant-loop-entry
invariant-loop-entry l = l.sum + sent_octets (data_of (deque_iter_rest l.entry-iterator))
    ≡ sent_octets (data_of l.ring.items)
