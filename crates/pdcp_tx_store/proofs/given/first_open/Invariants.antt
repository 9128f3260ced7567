use Rattle.std.proofs.Common.{◌≡◌}
use Rattle.std.specs.VecDeque.Iter.{deque_iter_rest}
use Rattle.pdcp_tx_store.specs.Given.{first_open}
use Rattle.pdcp_tx_store.proofs.given.first_open.Given as goal

abbrev pub invariant-loop-entry : goal.invariant-loop-entry
invariant-loop-entry l = first_open (deque_iter_rest l.entry-iterator) ≡ first_open l.entries.items
