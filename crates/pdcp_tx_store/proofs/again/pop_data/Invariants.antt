use Rattle.std.proofs.Common.{◌≡◌, length}
use Rattle.pdcp_tx_store.specs.Given.{data_of}
use Rattle.pdcp_tx_store.proofs.again.pop_data.Given as goal

abbrev pub invariant-loop-entry : goal.invariant-loop-entry
invariant-loop-entry l = data_of l.ring.items ≡ data_of l.fn.ring.items

abbrev pub decreases-loop-entry : goal.decreases-loop-entry
decreases-loop-entry l = length l.ring.items
