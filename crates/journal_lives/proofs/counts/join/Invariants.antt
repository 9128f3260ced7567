use Rattle.std.proofs.Common.{◌≡◌, ◌≤◌, ◌^◌, length}
use Rattle.journal_lives.specs.CountsCome.{joined_from}
use Rattle.journal_lives.proofs.counts.join.Given as goal

abbrev pub invariant-loop-count : goal.invariant-loop-count
invariant-loop-count l = record {
  within : l.next ≤ 2 ^ 32;
  rest : joined_from l.next l.beyond.keys ≡ joined_from l.fn.next l.fn.beyond.keys;
}

abbrev pub decreases-loop-count : goal.decreases-loop-count
decreases-loop-count l = length l.beyond.keys
