use Rattle.std.proofs.Common.{◌≡◌, ◌-◌, ◌≤◌, ◌++◌, length, drop}
use Rattle.journal_account.specs.FlowConfirmed.{walked}
use Rattle.journal_account.proofs.confirmed.walk.Given as goal

abbrev pub invariant-loop-end : goal.invariant-loop-end
invariant-loop-end l = record {
  within : l.at ≤ length l.ends.items;
  there : l.number ≤ length l.sending.numbers;
  rest : l.flags.items ++ walked l.sending
      (record { numbers = drop l.number l.sending.numbers; place = l.place }) l.from (drop l.at l.ends.items)
      ≡ walked l.sending (record { numbers = l.sending.numbers; place = l.sending.start }) l.sending.start
      l.ends.items;
}

abbrev pub decreases-loop-end : goal.decreases-loop-end
decreases-loop-end l = length l.ends.items - l.at
