use Rattle.std.proofs.Common.{◌≡◌, ◌+◌, ◌-◌, ◌≤◌, drop, length}
use Rattle.journal_lives.specs.CountsCome.{with_counts}
use Rattle.journal_lives.specs.FlowLives.{whole_counts}
use Rattle.journal_lives.proofs.lives.add_whole.Given as goal

abbrev pub invariant-loop-count : goal.invariant-loop-count
invariant-loop-count l = record {
  within : l.at ≤ length l.counts.items;
  rest : with_counts (whole_counts l.account (l.account.sdus.sequenced + l.at) (drop l.at l.counts.items)) l.come
      ≡ with_counts (whole_counts l.account l.account.sdus.sequenced l.counts.items) l.fn.come;
}

abbrev pub decreases-loop-count : goal.decreases-loop-count
decreases-loop-count l = length l.counts.items - l.at
