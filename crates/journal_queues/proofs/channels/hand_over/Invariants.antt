use Rattle.std.proofs.Common.{◌≡◌, ◌-◌, length, map}
use Rattle.journal_queues.specs.Leaving.{handed_over}
use Rattle.journal_queues.proofs.Walks.{handed_from}
use Rattle.journal_queues.proofs.channels.hand_over.Given as goal

abbrev pub invariant-loop-at : goal.invariant-loop-at
invariant-loop-at l = handed_from l.at l.channels.items ≡ map handed_over l.fn.channels.items

abbrev pub decreases-loop-at : goal.decreases-loop-at
decreases-loop-at l = length l.channels.items - l.at
