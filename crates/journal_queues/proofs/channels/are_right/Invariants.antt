use Rattle.std.proofs.Common.{◌≡◌, drop}
use Rattle.journal_queues.specs.QueueChecking.{all_right}
use Rattle.journal_queues.proofs.channels.are_right.Given as goal

abbrev pub invariant-loop-queue : goal.invariant-loop-queue
invariant-loop-queue l = all_right (drop l.queue-index l.fn.channels.items) ≡ all_right l.fn.channels.items
