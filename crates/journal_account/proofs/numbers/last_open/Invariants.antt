use Rattle.std.proofs.Common.{◌≡◌, ◌-◌, ◌<◌, None, drop, length, IfSome}
use Rattle.journal_account.specs.FlowSending.{last_open}
use Rattle.journal_account.proofs.numbers.last_open.Given as goal

abbrev pub invariant-loop-at : goal.invariant-loop-at
invariant-loop-at l = record {
  rest : last_open l.at l.found (drop l.at l.numbers.items) ≡ last_open 0 None l.numbers.items;
  within : IfSome l.found (λ n. n < length l.numbers.items);
}

abbrev pub decreases-loop-at : goal.decreases-loop-at
decreases-loop-at l = length l.numbers.items - l.at
