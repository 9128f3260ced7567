-- What PDCP's receiver of a signalling bearer might lose, and in a life doesn't (TS 36.323 5.1.2.2,
-- 5.7).
use Rattle.std.specs.Prelude.{◌≡◌, List, [], ◌∷◌}
use Rattle.bearer.specs.Acknowledged.State.{State}
use Rattle.law_bearer.specs.AnyBearer.Calls.{Call}
use Rattle.bearer_types.specs.declared.Event.{Event}
use Rattle.law_bearer.specs.AmBearer.Calls.{tells}
use Rattle.law_deliver.specs.AmDelivery.Lives.{near_calls, far_calls}
use Rattle.law_deliver.specs.AmFlow.Pair.{Pair, Step, am_pair_outset}
use Rattle.law_deliver.specs.SrbDelivery.Life.{BothBegin, AreLived, over}
use Rattle.promises.specs.Events.{losses}

-- what an end tells of it in a step
abbrev pub losses_by : State → List Call → List Event
losses_by b [] = []
losses_by b (c ∷ cs) = losses (tells b c)

abbrev pub near_losses : Pair → Step → List Event
near_losses p s = losses_by p.near.bearer (near_calls p s)

abbrev pub far_losses : Pair → Step → List Event
far_losses p s = losses_by p.far.bearer (far_calls p s)

-- no end loses one
pub record LoseNone (near far : State) (steps : List Step) : Type 0 where
  pub near_none : over near_losses steps (am_pair_outset near far) ≡ []
  pub far_none : over far_losses steps (am_pair_outset near far) ≡ []

abbrev pub NothingIsLost : Type 0
NothingIsLost = (near far : State) (steps : List Step) → BothBegin near far
    → AreLived (am_pair_outset near far) steps → LoseNone near far steps
