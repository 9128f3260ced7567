use Rattle.std.proofs.Common.{◌≡◌, ◌+◌, ◌-◌, length, drop}
use Rattle.journal_account.specs.FlowSending.{first_over}
use Rattle.journal_account.proofs.numbers.first_over.Given as goal

abbrev pub invariant-loop-at : goal.invariant-loop-at
invariant-loop-at l =
    first_over l.most (l.base + l.at) (drop l.at l.numbers.items) ≡ first_over l.most l.base l.numbers.items

abbrev pub decreases-loop-at : goal.decreases-loop-at
decreases-loop-at l = length l.numbers.items - l.at
