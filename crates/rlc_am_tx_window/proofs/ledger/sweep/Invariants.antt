use Rattle.std.proofs.Common.{◌≡◌, ◌+◌, length, drop}
use Rattle.rlc_am_tx_window.specs.Ledger.{leading_paid}
use Rattle.rlc_am_tx_window.proofs.ledger.sweep.Given as goal

abbrev pub invariant-loop-entry : goal.invariant-loop-entry
invariant-loop-entry l = record {
  sum : l.oldest + length l.entries.items ≡ l.fn.oldest + length l.fn.entries.items;
  oldest : l.oldest + leading_paid l.entries.items ≡ l.fn.oldest + leading_paid l.fn.entries.items;
  entries : drop (leading_paid l.entries.items) l.entries.items
      ≡ drop (leading_paid l.fn.entries.items) l.fn.entries.items;
}

abbrev pub decreases-loop-entry : goal.decreases-loop-entry
decreases-loop-entry l = length l.entries.items
