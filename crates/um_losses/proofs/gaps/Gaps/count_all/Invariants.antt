use Rattle.std.proofs.Common.{◌≡◌, length}
use Rattle.um_losses.specs.Gaps.{all_counted}
use Rattle.um_losses.proofs.gaps.Gaps.count_all.Given as goal

abbrev pub invariant-loop-sdu : goal.invariant-loop-sdu
invariant-loop-sdu l = all_counted l.sdus l.self ≡ all_counted l.fn.sdus l.fn.self

abbrev pub decreases-loop-sdu : goal.decreases-loop-sdu
decreases-loop-sdu l = length l.sdus
