use Rattle.std.proofs.Common.{◌≡◌, ◌+◌, ◌-◌, ◌≤◌, length, drop}
use Rattle.journal_takes.proofs.sdus.trim.Given as goal

abbrev pub invariant-loop-from : goal.invariant-loop-from
invariant-loop-from l = record {
  low : l.from ≤ l.low;
  rest : drop (l.low - l.from) l.sdus.items ≡ drop (l.low - l.fn.from) l.fn.sdus.items;
  sum : l.from + length l.sdus.items ≡ l.fn.from + length l.fn.sdus.items;
}

abbrev pub decreases-loop-from : goal.decreases-loop-from
decreases-loop-from l = l.low - l.from
