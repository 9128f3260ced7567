use Rattle.std.proofs.Common.{◌≡◌, length}
use Rattle.bearer.specs.Acknowledged.Lives.{hears_last}
use Rattle.bearer.proofs.acknowledged.stopped.hear_last.Given as goal

abbrev pub invariant-loop-sdu : goal.invariant-loop-sdu
invariant-loop-sdu l = hears_last l.sdus (record { pdcp = l.pdcp; events = l.events })
    ≡ hears_last l.fn.sdus (record { pdcp = l.fn.pdcp; events = l.fn.events })

abbrev pub decreases-loop-sdu : goal.decreases-loop-sdu
decreases-loop-sdu l = length l.sdus
