use Rattle.std.proofs.Common.{◌≡◌, ◌+◌, ◌-◌, ◌++◌, drop, take, length}
use Rattle.journal_account.specs.FlowSending.{heard_all}
use Rattle.journal_account.proofs.numbers.hear.Given as goal

abbrev pub invariant-loop-at : goal.invariant-loop-at
invariant-loop-at l = record {
  same : length l.numbers.items ≡ length l.fn.numbers.items;
  items : take l.at l.numbers.items ++ heard_all l.ack l.entries (l.base + l.at) (drop l.at l.numbers.items)
      ≡ heard_all l.ack l.entries l.base l.fn.numbers.items;
}

abbrev pub decreases-loop-at : goal.decreases-loop-at
decreases-loop-at l = length l.numbers.items - l.at
