use Rattle.std.proofs.Common.{◌≡◌, ◌++◌, map, length}
use Rattle.bearer_types.specs.declared.Event.TheVariants.{Drop}
use Rattle.l2_types.specs.declared.Lost.TheVariants.{Handover}
use Rattle.bearer.proofs.acknowledged.stopped.drop_last.Given as goal

abbrev pub invariant-drops : goal.invariant-drops
invariant-drops l = l.events ++ map (λ sdu. Drop l.lcid Handover) l.sdus
    ≡ l.fn.events ++ map (λ sdu. Drop l.lcid Handover) l.fn.sdus

abbrev pub decreases-drops : goal.decreases-drops
decreases-drops l = length l.sdus
