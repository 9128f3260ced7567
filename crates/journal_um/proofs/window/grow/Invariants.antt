use Rattle.std.proofs.Common.{◌≡◌, ◌-◌, ◌≤◌, max, length}
use Rattle.journal_um.specs.UmWindow.{grown}
use Rattle.journal_um.proofs.window.grow.Given as goal

abbrev pub invariant-growth : goal.invariant-growth
invariant-growth l = record {
  items : grown l.pdus.items l.size ≡ grown l.fn.pdus.items l.size;
  within : length l.pdus.items ≤ max (length l.fn.pdus.items) l.size;
}

abbrev pub decreases-growth : goal.decreases-growth
decreases-growth l = l.size - length l.pdus.items
