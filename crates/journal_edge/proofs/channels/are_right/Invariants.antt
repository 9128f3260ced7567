use Rattle.std.proofs.Common.{◌≡◌, drop}
use Rattle.journal_edge.specs.EdgeChecking.{slots_right}
use Rattle.journal_edge.proofs.channels.are_right.Given as goal

abbrev pub invariant-loop-slot : goal.invariant-loop-slot
invariant-loop-slot l = slots_right (drop l.slot-index l.fn.channels.items) ≡ slots_right l.fn.channels.items
