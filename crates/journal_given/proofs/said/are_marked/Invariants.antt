use Rattle.std.proofs.Common.{◌≡◌, ◌-◌, ◌≤◌, length, drop}
use Rattle.journal_given.specs.Supplies.{marked_from, is_same_list}
use Rattle.journal_given.proofs.said.are_marked.Given as goal

abbrev pub invariant-loop-k : goal.invariant-loop-k
invariant-loop-k l = record {
  bits : l.k ≤ l.many;
  within : l.at ≤ length l.counts;
  rest : is_same_list (marked_from l.bitmap l.first l.k (l.many - l.k)) (drop l.at l.counts)
      ≡ is_same_list (marked_from l.bitmap l.first 0 l.many) l.counts;
}

abbrev pub decreases-loop-k : goal.decreases-loop-k
decreases-loop-k l = l.many - l.k
