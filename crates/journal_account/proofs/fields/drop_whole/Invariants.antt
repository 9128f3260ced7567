use Rattle.std.proofs.Common.{◌≡◌, ◌+◌, length, drop}
use Rattle.journal_account.specs.FlowArrivals.{whole_first, octets_first, octets_of}
use Rattle.journal_account.proofs.fields.drop_whole.Given as goal

abbrev pub invariant-loop-front : goal.invariant-loop-front
invariant-loop-front l = record {
  front : l.front + whole_first l.fields.items ≡ l.fn.front + whole_first l.fn.fields.items;
  start : l.start + octets_first l.fields.items ≡ l.fn.start + octets_first l.fn.fields.items;
  rest : drop (whole_first l.fields.items) l.fields.items
      ≡ drop (whole_first l.fn.fields.items) l.fn.fields.items;
  numbers : l.front + length l.fields.items ≡ l.fn.front + length l.fn.fields.items;
  octets : l.start + octets_of l.fields.items ≡ l.fn.start + octets_of l.fn.fields.items;
}

abbrev pub decreases-loop-front : goal.decreases-loop-front
decreases-loop-front l = length l.fields.items
