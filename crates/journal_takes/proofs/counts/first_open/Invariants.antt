use Rattle.std.proofs.Common.{◌≡◌, ◌-◌, ◌≤◌, max}
use Rattle.journal_takes.specs.FlowTakes.{first_open}
use Rattle.journal_takes.proofs.counts.first_open.Given as goal

abbrev pub invariant-loop-at : goal.invariant-loop-at
invariant-loop-at l = record {
  above : l.from ≤ l.at;
  within : l.at ≤ max l.from l.next;
  rest : first_open l.counts.keys l.next l.at ≡ first_open l.counts.keys l.next l.from;
}

abbrev pub decreases-loop-at : goal.decreases-loop-at
decreases-loop-at l = l.next - l.at
