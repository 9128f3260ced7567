use Rattle.std.proofs.Common.{◌≡◌, ◌-◌, ◌++◌, drop, take, length}
use Rattle.rlc_am_tx_window.specs.Window.{acked_from, credited_from, waiting_from}
use Rattle.rlc_am_tx_window.proofs.ring.acknowledge.Given as goal

abbrev pub invariant-loop-at : goal.invariant-loop-at
invariant-loop-at l = record {
  capacity : l.ring.capacity ≡ l.fn.ring.capacity;
  same : length l.ring.items ≡ length l.fn.ring.items;
  sync : l.waiting ≡ waiting_from l.base l.ring.items;
  items : take l.at l.ring.items ++ acked_from l.at l.below (drop l.at l.ring.items)
      ≡ acked_from 0 l.below l.fn.ring.items;
  accounts : credited_from l.accounts l.at l.below (drop l.at l.ring.items)
      ≡ credited_from l.fn.accounts 0 l.below l.fn.ring.items;
}

abbrev pub decreases-loop-at : goal.decreases-loop-at
decreases-loop-at l = length l.ring.items - l.at
