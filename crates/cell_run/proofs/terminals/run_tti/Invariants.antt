use Rattle.std.proofs.Common.{◌≡◌, ◌≤◌, ◌++◌, length, take, drop}
use Rattle.air_run.specs.Putting.{HasPut}
use Rattle.cell_run.specs.Entries.{texts_of}
use Rattle.cell_run.specs.Terminals.{all_behind, all_entries}
use Rattle.cell_run.proofs.terminals.run_tti.Given as goal

abbrev pub invariant-loop-at : goal.invariant-loop-at
invariant-loop-at g l = record {
  size : length l.terminals ≡ length l.initial.terminals;
  after : take l.at l.terminals ++ all_behind l.up_grants l.down_grants l.at (drop l.at l.terminals)
      ≡ all_behind l.up_grants l.down_grants 0 l.initial.terminals;
  put : HasPut (texts_of (all_entries l.up_grants l.down_grants 0 l.initial.terminals))
      (texts_of (all_entries l.up_grants l.down_grants l.at (drop l.at l.terminals)))
      (g.K.Sink.written l.initial.out) (g.K.Sink.written l.out);
  count : g.K.Sink.faults l.initial.out ≤ g.K.Sink.faults l.out;
}
