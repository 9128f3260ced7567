-- Each end of a bearer of acknowledged data through lives, as a bearer of its own
-- (TS 36.322 5.1.3, TS 36.323 5.1, 5.2): what it comes to by its calls, and what is submitted
-- there.
use Rattle.std.specs.Prelude.{◌≡◌, ℕ, List, [], ◌∷◌, map}
use Rattle.bearer.specs.declared.flow.Flow.TheVariants.{Am}
use Rattle.bearer.specs.Acknowledged.State.{State}
use Rattle.law_bearer.specs.AnyBearer.Calls.{Call, Step as BearerStep, Calls, Restart, reached}
use Rattle.law_bearer.specs.AnyBearer.Queue.{submits, drops}
use Rattle.bearer_types.specs.declared.BearerConfig.{BearerConfig}
use Rattle.eps_sec.specs.declared.Keys.{Keys}
use Rattle.l2_types.specs.declared.Side.TheVariants.{Nb, Ue}
use Rattle.law_words.specs.Lists.{AreFirstSdus}
use Rattle.law_deliver.specs.AmFlow.Pair.{Pair, am_pair_outset}
use Rattle.law_deliver.specs.AmDelivery.Delivery.{AreBothEnds}
use Rattle.law_deliver.specs.AmDelivery.Lives.{LifeStep, InLife, Restarts, lives, AreLiving}
use Rattle.law_deliver.specs.AmDelivery.Lives.{near_calls, far_calls, far_ups_in, near_ups_in, over}

-- ---- what happens to the bearer of an end

abbrev pub near_steps_in : Pair → LifeStep → List BearerStep
near_steps_in p (InLife s) = map (λ c. Calls c) (near_calls p s)
near_steps_in p (Restarts keys) = Restart keys ∷ []

abbrev pub far_steps_in : Pair → LifeStep → List BearerStep
far_steps_in p (InLife s) = map (λ c. Calls c) (far_calls p s)
far_steps_in p (Restarts keys) = Restart keys ∷ []

-- each end is what its bearer comes to by them, as both are configured
pub record AreReached (c : BearerConfig) (keys : Keys) (nb ue : State) (steps : List LifeStep) :
    Type 0 where
  pub nb_is : reached c keys Nb (over near_steps_in steps (am_pair_outset nb ue))
      ≡ Am (lives steps (am_pair_outset nb ue)).near.bearer
  pub ue_is : reached c keys Ue (over far_steps_in steps (am_pair_outset nb ue))
      ≡ Am (lives steps (am_pair_outset nb ue)).far.bearer

abbrev pub EndsAreReached : Type 0
EndsAreReached = (c : BearerConfig) (keys : Keys) (nb ue : State) (steps : List LifeStep)
    → AreBothEnds c keys nb ue → AreReached c keys nb ue steps

-- ---- what is submitted at an end, and what is discarded there before it is taken

abbrev pub submitted_by : List Call → List (List ℕ)
submitted_by [] = []
submitted_by (c ∷ cs) = submits c

abbrev pub drops_by : State → List Call → List (List ℕ)
drops_by b [] = []
drops_by b (c ∷ cs) = drops (Am b) c

abbrev pub near_submitted_in : Pair → LifeStep → List (List ℕ)
near_submitted_in p (InLife s) = submitted_by (near_calls p s)
near_submitted_in p (Restarts keys) = []

abbrev pub far_submitted_in : Pair → LifeStep → List (List ℕ)
far_submitted_in p (InLife s) = submitted_by (far_calls p s)
far_submitted_in p (Restarts keys) = []

abbrev pub near_drops_in : Pair → LifeStep → List (List ℕ)
near_drops_in p (InLife s) = drops_by p.near.bearer (near_calls p s)
near_drops_in p (Restarts keys) = []

abbrev pub far_drops_in : Pair → LifeStep → List (List ℕ)
far_drops_in p (InLife s) = drops_by p.far.bearer (far_calls p s)
far_drops_in p (Restarts keys) = []

-- where none is discarded, what went up at the other end are the SDUs that were submitted first: in
-- their order, each once and unchanged
pub record AreOfTheSubmitted (nb ue : State) (steps : List LifeStep) : Type 0 where
  pub down : over near_drops_in steps (am_pair_outset nb ue) ≡ []
      → AreFirstSdus (over far_ups_in steps (am_pair_outset nb ue))
      (over near_submitted_in steps (am_pair_outset nb ue))
  pub up : over far_drops_in steps (am_pair_outset nb ue) ≡ []
      → AreFirstSdus (over near_ups_in steps (am_pair_outset nb ue))
      (over far_submitted_in steps (am_pair_outset nb ue))

abbrev pub DeliversSubmitted : Type 0
DeliversSubmitted = (c : BearerConfig) (keys : Keys) (nb ue : State) (steps : List LifeStep)
    → AreBothEnds c keys nb ue → AreLiving (am_pair_outset nb ue) steps
    → AreOfTheSubmitted nb ue steps
