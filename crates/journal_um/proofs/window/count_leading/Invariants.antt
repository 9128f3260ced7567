use Rattle.std.proofs.Common.{◌≡◌, ◌-◌, ◌+◌, ◌≤◌, length, drop}
use Rattle.journal_um.specs.UmWindow.{leading}
use Rattle.journal_um.proofs.window.count_leading.Given as goal

abbrev pub invariant-loop-at : goal.invariant-loop-at
invariant-loop-at l = record {
  within : l.at ≤ length l.pdus.items;
  rest : l.at + leading (drop l.at l.pdus.items) ≡ leading l.pdus.items;
}

abbrev pub decreases-loop-at : goal.decreases-loop-at
decreases-loop-at l = length l.pdus.items - l.at
