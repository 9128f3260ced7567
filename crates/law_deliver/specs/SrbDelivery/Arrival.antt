-- Which SDUs of a signalling bearer have gone up at an end in a life, told by the PDUs of both
-- ends: those before the first that hasn't come (TS 36.322 5.1.3.2, TS 36.323 5.1.2.2).
use Rattle.std.specs.Prelude.{List, [], ◌∷◌}
use Rattle.bearer.specs.Acknowledged.State.{State}
use Rattle.law_deliver.specs.AmDelivery.Arrival.{down_in, up_in}
use Rattle.law_deliver.specs.AmDelivery.Lives.{InLife}
use Rattle.law_deliver.specs.AmFlow.Pair.{Pair, Step, am_pair_outset}
use Rattle.law_deliver.specs.SrbDelivery.Life.{BothBegin, AreLived, over, near_ups, far_ups}
use Rattle.law_deliver.specs.SrbDelivery.Life.{near_submits, far_submits}
use Rattle.law_words.specs.Arrivals.{AccountEntry, Gives, Passes, Renews}
use Rattle.law_words.specs.Passing.{Passing, nothing_told, with_passings}
use Rattle.promises.specs.Sequence.{AreInSequence}

-- of what happens the PDUs of RLC
abbrev pub passes_of : List AccountEntry → List Passing
passes_of [] = []
passes_of (Gives g ∷ hs) = passes_of hs
passes_of (Passes p ∷ hs) = p ∷ passes_of hs
passes_of (Renews ∷ hs) = passes_of hs

-- of each direction
abbrev pub there_in : Pair → Step → List Passing
there_in p s = passes_of (down_in p (InLife s))

abbrev pub back_in : Pair → Step → List Passing
back_in p s = passes_of (up_in p (InLife s))

-- ---- the law

pub record GoUpInSequence (near far : State) (steps : List Step) : Type 0 where
  pub there : AreInSequence (over near_submits steps (am_pair_outset near far))
      (over far_ups steps (am_pair_outset near far))
      (with_passings (over there_in steps (am_pair_outset near far)) nothing_told)
  pub back : AreInSequence (over far_submits steps (am_pair_outset near far))
      (over near_ups steps (am_pair_outset near far))
      (with_passings (over back_in steps (am_pair_outset near far)) nothing_told)

abbrev pub DeliversInSequence : Type 0
DeliversInSequence = (near far : State) (steps : List Step) → BothBegin near far
    → AreLived (am_pair_outset near far) steps → GoUpInSequence near far steps
