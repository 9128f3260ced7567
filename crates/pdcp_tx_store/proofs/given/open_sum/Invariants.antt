use Rattle.std.proofs.Common.{◌≡◌, ◌+◌}
use Rattle.std.specs.VecDeque.Iter.{deque_iter_rest}
use Rattle.pdcp_tx_store.specs.Given.{open_octets}
use Rattle.pdcp_tx_store.proofs.given.open_sum.Given as goal

abbrev pub invariant-loop-entry : goal.invariant-loop-entry
invariant-loop-entry l = l.sum + open_octets (deque_iter_rest l.entry-iterator) ≡ open_octets l.entries.items
