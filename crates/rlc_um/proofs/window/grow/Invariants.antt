use Rattle.std.proofs.Common.{◌≡◌, ◌-◌, length}
use Rattle.rlc_um.specs.Window.{grown}
use Rattle.rlc_um.proofs.window.grow.Given as goal

abbrev pub invariant-growth : goal.invariant-growth
invariant-growth l = record {
  capacity : l.ring.capacity ≡ l.fn.ring.capacity;
  items : grown l.ring.items l.size ≡ grown l.fn.ring.items l.size;
}

abbrev pub decreases-growth : goal.decreases-growth
decreases-growth l = l.size - length l.ring.items
