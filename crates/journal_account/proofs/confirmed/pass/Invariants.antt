use Rattle.std.proofs.Common.{◌≡◌, ◌-◌, ◌≤◌, length, drop}
use Rattle.journal_account.specs.FlowConfirmed.{behind}
use Rattle.journal_account.proofs.confirmed.pass.Given as goal

abbrev pub invariant-loop-one : goal.invariant-loop-one
invariant-loop-one l = record {
  within : l.at ≤ length l.numbers.items;
  rest : behind l.limit (drop l.at l.numbers.items) l.place
      ≡ behind l.limit (drop l.fn.at l.numbers.items) l.fn.place;
}

abbrev pub decreases-loop-one : goal.decreases-loop-one
decreases-loop-one l = length l.numbers.items - l.at
