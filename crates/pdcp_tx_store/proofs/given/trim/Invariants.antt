use Rattle.std.proofs.Common.{◌≡◌, ◌+◌, length}
use Rattle.pdcp_tx_store.specs.Given.{trimmed, closed, open_octets}
use Rattle.pdcp_tx_store.proofs.given.trim.Given as goal

abbrev pub invariant-loop-entry : goal.invariant-loop-entry
invariant-loop-entry l = record {
  sum : l.gone + length l.entries.items ≡ l.fn.gone + length l.fn.entries.items;
  gone : l.gone + closed l.entries.items ≡ l.fn.gone + closed l.fn.entries.items;
  entries : trimmed l.entries.items ≡ trimmed l.fn.entries.items;
  open' : open_octets l.entries.items ≡ open_octets l.fn.entries.items;
}

abbrev pub decreases-loop-entry : goal.decreases-loop-entry
decreases-loop-entry l = length l.entries.items
