use Rattle.std.proofs.Common.{◌≡◌, drop}
use Rattle.journal_delivered.specs.DeliveryChecking.{all_right}
use Rattle.journal_delivered.proofs.awaited_channels.are_right.Given as goal

abbrev pub invariant-loop-slot : goal.invariant-loop-slot
invariant-loop-slot l = all_right (drop l.slot-index l.fn.channels.items) ≡ all_right l.fn.channels.items
