use Rattle.std.proofs.Common.{◌≡◌, ◌+◌, length, drop}
use Rattle.journal_account.specs.FlowSending.{acked_first, acked_octets}
use Rattle.journal_account.proofs.numbers.advance.Given as goal

abbrev pub invariant-loop-one : goal.invariant-loop-one
invariant-loop-one l = record {
  base : l.base + acked_first l.numbers.items ≡ l.fn.base + acked_first l.fn.numbers.items;
  start : l.start + acked_octets l.numbers.items ≡ l.fn.start + acked_octets l.fn.numbers.items;
  rest : drop (acked_first l.numbers.items) l.numbers.items
      ≡ drop (acked_first l.fn.numbers.items) l.fn.numbers.items;
  sum : l.base + length l.numbers.items ≡ l.fn.base + length l.fn.numbers.items;
}

abbrev pub decreases-loop-one : goal.decreases-loop-one
decreases-loop-one l = length l.numbers.items
