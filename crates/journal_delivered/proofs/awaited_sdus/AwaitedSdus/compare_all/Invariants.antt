use Rattle.std.proofs.Common.{◌≡◌, length}
use Rattle.journal_delivered.specs.DeliveryChecking.{all_compared}
use Rattle.journal_delivered.proofs.awaited_sdus.AwaitedSdus.compare_all.Given as goal

abbrev pub invariant-loop-sdu : goal.invariant-loop-sdu
invariant-loop-sdu l = all_compared l.sdus.items l.self ≡ all_compared l.fn.sdus.items l.fn.self

abbrev pub decreases-loop-sdu : goal.decreases-loop-sdu
decreases-loop-sdu l = length l.sdus.items
