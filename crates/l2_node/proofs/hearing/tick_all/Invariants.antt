use Rattle.std.proofs.Common.{◌≡◌, length, drop}
use Rattle.l2_node.specs.Hearing.{ticks_over, heard}
use Rattle.l2_node.proofs.hearing.tick_all.Given as goal

abbrev pub invariant-loop-at : goal.invariant-loop-at
invariant-loop-at l = record {
  rest : ticks_over (drop l.at l.initial.bearers.items) l.at (heard l.bearers.items l.events)
      ≡ ticks_over l.initial.bearers.items 0 (heard l.initial.bearers.items l.initial.events);
  len : length l.bearers.items ≡ l.count;
  total : l.count ≡ length l.initial.bearers.items;
}
