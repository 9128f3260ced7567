use Rattle.std.proofs.Common.{◌≡◌, ◌≤◌, length}
use Rattle.pdcp_tx_store.specs.Given.{from_unacked, sent_octets, data_of}
use Rattle.pdcp_tx_store.proofs.again.trim.Given as goal

abbrev pub invariant-loop-entry : goal.invariant-loop-entry
invariant-loop-entry l = record {
  data' : from_unacked (data_of l.ring.items) ≡ from_unacked (data_of l.fn.ring.items);
  octets : sent_octets (data_of l.ring.items) ≤ sent_octets (data_of l.fn.ring.items);
  count : length (data_of l.ring.items) ≤ length (data_of l.fn.ring.items);
}

abbrev pub decreases-loop-entry : goal.decreases-loop-entry
decreases-loop-entry l = length l.ring.items
