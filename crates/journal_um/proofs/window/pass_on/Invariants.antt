use Rattle.std.proofs.Common.{◌≡◌, ◌+◌, ◌≤◌, length, drop, take}
use Rattle.journal_um.specs.UmJoiner.{with_pdus}
use Rattle.journal_um.proofs.window.pass_on.Given as goal

abbrev pub invariant-loop-left : goal.invariant-loop-left
invariant-loop-left l = record {
  sum : l.edge + length l.pdus.items ≡ l.fn.edge + length l.fn.pdus.items;
  count : l.edge + l.left ≡ l.fn.edge + l.count;
  fewer : l.left ≤ length l.pdus.items;
  pdus : drop l.left l.pdus.items ≡ drop l.count l.fn.pdus.items;
  joined : with_pdus (take l.left l.pdus.items) l.joiner ≡ with_pdus (take l.count l.fn.pdus.items) l.fn.joiner;
}

abbrev pub decreases-loop-left : goal.decreases-loop-left
decreases-loop-left l = l.left
