use Rattle.std.proofs.Common.{◌≡◌, take, drop}
use Rattle.journal_lives.specs.CountsCome.{with_counts}
use Rattle.journal_lives.proofs.lives.add_first.Given as goal

abbrev pub invariant-loop-left : goal.invariant-loop-left
invariant-loop-left l = record {
  come : with_counts (take l.left l.counts.items) l.come ≡ with_counts (take l.many l.fn.counts.items) l.fn.come;
  rest : drop l.left l.counts.items ≡ drop l.many l.fn.counts.items;
}

abbrev pub decreases-loop-left : goal.decreases-loop-left
decreases-loop-left l = l.left
