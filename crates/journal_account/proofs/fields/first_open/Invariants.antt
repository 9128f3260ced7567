use Rattle.std.proofs.Common.{◌≡◌, ◌-◌, ◌≤◌, length, max}
use Rattle.journal_account.specs.FlowArrivals.{first_open}
use Rattle.journal_account.proofs.fields.first_open.Given as goal

abbrev pub invariant-loop-at : goal.invariant-loop-at
invariant-loop-at l = record {
  within : l.at ≤ max l.from (length l.fields.items);
  rest : first_open l.fields.items l.at ≡ first_open l.fields.items l.from;
}

abbrev pub decreases-loop-at : goal.decreases-loop-at
decreases-loop-at l = length l.fields.items - l.at
