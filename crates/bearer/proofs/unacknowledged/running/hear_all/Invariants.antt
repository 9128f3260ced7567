use Rattle.std.proofs.Common.{◌≡◌, length}
use Rattle.pdcp_rx.specs.declared.Cause.TheVariants.{Reestablished}
use Rattle.bearer.specs.Unacknowledged.Hearing.{hears_all}
use Rattle.bearer.proofs.unacknowledged.running.hear_all.Given as goal

abbrev pub invariant-loop-sdu : goal.invariant-loop-sdu
invariant-loop-sdu l = hears_all l.sdus Reestablished (record { pdcp = l.pdcp; events = l.events })
    ≡ hears_all l.fn.sdus Reestablished (record { pdcp = l.fn.pdcp; events = l.fn.events })

abbrev pub decreases-loop-sdu : goal.decreases-loop-sdu
decreases-loop-sdu l = length l.sdus
