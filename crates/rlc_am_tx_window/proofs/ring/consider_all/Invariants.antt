use Rattle.std.proofs.Common.{◌≡◌, length}
use Rattle.rlc_pdu.specs.Views.{nacks_of}
use Rattle.rlc_am_tx_window.specs.Window.{considered_all, waiting_from}
use Rattle.rlc_am_tx_window.proofs.ring.consider_all.Given as goal

abbrev pub invariant-loop-nack : goal.invariant-loop-nack
invariant-loop-nack l = record {
  capacity : l.ring.capacity ≡ l.fn.ring.capacity;
  same : length l.ring.items ≡ length l.fn.ring.items;
  waits : waiting_from l.base l.ring.items ≡ waiting_from l.base l.fn.ring.items;
  items : considered_all l.base l.most l.ring.items (nacks_of l.rest)
      ≡ considered_all l.base l.most l.fn.ring.items (nacks_of l.nacks);
}

abbrev pub decreases-loop-nack : goal.decreases-loop-nack
decreases-loop-nack l = length (nacks_of l.rest)
