use Rattle.std.proofs.Common.{◌≡◌, ◌-◌, ◌≤◌, length, drop}
use Rattle.journal_account.specs.FlowConfirmed.{places_acked}
use Rattle.journal_account.proofs.numbers.places_acked_from.Given as goal

abbrev pub invariant-loop-from : goal.invariant-loop-from
invariant-loop-from l = record {
  within : l.at ≤ length l.numbers.items;
  rest : places_acked (drop l.at l.numbers.items) l.from l.to
      ≡ places_acked (drop l.fn.first l.numbers.items) l.fn.from l.fn.to;
}

abbrev pub decreases-loop-from : goal.decreases-loop-from
decreases-loop-from l = length l.numbers.items - l.at
