use Rattle.std.proofs.Common.{◌≡◌, option_map, slice_get}
use Rattle.std.specs.VecDeque.Iter.{deque_iter_rest}
use Rattle.pdcp_tx_store.specs.Given.{data_of}
use Rattle.pdcp_tx_store.proofs.again.first_data.Given as goal

abbrev pub invariant-loop-entry : goal.invariant-loop-entry
invariant-loop-entry l = option_map (λ s. s.count) (slice_get (data_of (deque_iter_rest l.entry-iterator)) 0)
    ≡ option_map (λ s. s.count) (slice_get (data_of l.ring.items) 0)
