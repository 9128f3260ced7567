use Rattle.std.proofs.Common.{◌≡◌, ◌++◌, length}
use Rattle.bearer.proofs.acknowledged.timing.append.Given as goal

abbrev pub invariant-loop-event : goal.invariant-loop-event
invariant-loop-event l = l.events ++ l.more ≡ l.fn.events ++ l.fn.more

abbrev pub decreases-loop-event : goal.decreases-loop-event
decreases-loop-event l = length l.more
