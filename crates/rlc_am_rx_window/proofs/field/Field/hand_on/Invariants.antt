use Rattle.std.proofs.Common.{◌≡◌, length, drop}
use Rattle.rlc_am_rx_window.specs.Cells.{leading}
use Rattle.rlc_am_rx_window.specs.Joined.{joined}
use Rattle.rlc_am_rx_window.proofs.field.Field.hand_on.Given as goal

abbrev pub invariant-loop-stretch : goal.invariant-loop-stretch
invariant-loop-stretch l = joined l.out (leading (drop l.left l.field))
    ≡ joined l.fn.out (leading (drop l.from l.fn.self))

abbrev pub decreases-loop-stretch : goal.decreases-loop-stretch
decreases-loop-stretch l = length l.field
