-- What a signalling bearer delivers in a life, in each direction (TS 36.323 5.1).
use Rattle.std.specs.Prelude.{◌≡◌, List}
use Rattle.law_words.specs.Lists.{AreFirstSdus}
use Rattle.bearer.specs.Acknowledged.State.{State}
use Rattle.law_deliver.specs.AmDelivery.Drained.{IsDrained}
use Rattle.law_deliver.specs.AmFlow.Pair.{Step, goes, am_pair_outset}
use Rattle.law_deliver.specs.SrbDelivery.Life.{BothBegin, AreLived, over, near_ups, far_ups}
use Rattle.law_deliver.specs.SrbDelivery.Life.{near_submits, far_submits}

-- what has gone up at an end in a life are the SDUs that the other submitted first in it: in their
-- order, each once and unchanged, none left out
pub record AreTheFront (near far : State) (steps : List Step) : Type 0 where
  pub there : AreFirstSdus (over far_ups steps (am_pair_outset near far))
      (over near_submits steps (am_pair_outset near far))
  pub back : AreFirstSdus (over near_ups steps (am_pair_outset near far))
      (over far_submits steps (am_pair_outset near far))

abbrev pub DeliversTheFront : Type 0
DeliversTheFront = (near far : State) (steps : List Step) → BothBegin near far
    → AreLived (am_pair_outset near far) steps → AreTheFront near far steps

-- once an end is drained, and its sender hasn't failed, they are all that it submitted in the life
pub record AreAll (near far : State) (steps : List Step) : Type 0 where
  pub there : IsDrained (goes steps (am_pair_outset near far)).near.bearer
      → over far_ups steps (am_pair_outset near far)
      ≡ over near_submits steps (am_pair_outset near far)
  pub back : IsDrained (goes steps (am_pair_outset near far)).far.bearer
      → over near_ups steps (am_pair_outset near far)
      ≡ over far_submits steps (am_pair_outset near far)

abbrev pub DrainedHasDelivered : Type 0
DrainedHasDelivered = (near far : State) (steps : List Step) → BothBegin near far
    → AreLived (am_pair_outset near far) steps → AreAll near far steps
