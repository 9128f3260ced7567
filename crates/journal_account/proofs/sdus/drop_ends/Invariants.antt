use Rattle.std.proofs.Common.{◌≡◌, ◌+◌, length, drop}
use Rattle.journal_account.specs.FlowSdus.{ends_by}
use Rattle.journal_account.proofs.sdus.drop_ends.Given as goal

abbrev pub invariant-loop-end : goal.invariant-loop-end
invariant-loop-end l = record {
  count : l.count + ends_by l.place l.ends.items ≡ l.fn.count + ends_by l.place l.fn.ends.items;
  rest : drop (ends_by l.place l.ends.items) l.ends.items
      ≡ drop (ends_by l.place l.fn.ends.items) l.fn.ends.items;
  sum : l.count + length l.ends.items ≡ l.fn.count + length l.fn.ends.items;
}

abbrev pub decreases-loop-end : goal.decreases-loop-end
decreases-loop-end l = length l.ends.items
