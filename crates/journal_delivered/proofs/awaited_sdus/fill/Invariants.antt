use Rattle.std.proofs.Common.{◌≡◌, ◌≤◌, length, max}
use Rattle.journal_delivered.proofs.Filling.{filled_to, left_to}
use Rattle.journal_delivered.proofs.awaited_sdus.fill.Given as goal

abbrev pub invariant-loop-waiting : goal.invariant-loop-waiting
invariant-loop-waiting l = record {
  filled : filled_to l.room l.taken.items l.waiting.items ≡ filled_to l.room l.fn.taken.items l.fn.waiting.items;
  left : left_to l.room l.taken.items l.waiting.items ≡ left_to l.room l.fn.taken.items l.fn.waiting.items;
  within : length l.taken.items ≤ max l.room (length l.fn.taken.items);
}

abbrev pub decreases-loop-waiting : goal.decreases-loop-waiting
decreases-loop-waiting l = length l.waiting.items
