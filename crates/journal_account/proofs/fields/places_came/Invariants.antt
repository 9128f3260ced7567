use Rattle.std.proofs.Common.{◌≡◌, ◌-◌, ◌≤◌, length, drop}
use Rattle.journal_account.specs.FlowArrivals.{places_came}
use Rattle.journal_account.proofs.fields.places_came.Given as goal

abbrev pub invariant-loop-field : goal.invariant-loop-field
invariant-loop-field l = record {
  within : l.at ≤ length l.fields.items;
  rest : places_came (drop l.at l.fields.items) l.from l.to ≡ places_came l.fields.items l.fn.from l.fn.to;
}

abbrev pub decreases-loop-field : goal.decreases-loop-field
decreases-loop-field l = length l.fields.items - l.at
