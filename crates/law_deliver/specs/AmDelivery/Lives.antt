-- Both ends of a bearer of acknowledged data through lives: in a life their steps, then both begin
-- the next one under the same keys (TS 36.322
-- 5.4, TS 36.323 5.2).
use Rattle.std.specs.Prelude.{ℕ, List, [], ◌∷◌, ◌++◌, Option, Some, None, slice_get}
use Rattle.eps_sec.specs.declared.Keys.{Keys}
use Rattle.bearer.specs.declared.flow.Flow.TheVariants.{Am}
use Rattle.bearer.specs.Lives.{stopping}
use Rattle.bearer.specs.Acknowledged.State.{State}
use Rattle.law_bearer.specs.AnyBearer.Calls.{Call, Arrive}
use Rattle.law_bearer.specs.AnyBearer.Queue.{news}
use Rattle.law_bearer.specs.AmBearer.Calls.{tells, ups_among}
use Rattle.law_bearer.specs.AmBearer.Lives.{restarts}
use Rattle.law_rlc.specs.AmPair.Flow.{Copy, Report}
use Rattle.law_deliver.specs.Accepted.{IsAccepted}
use Rattle.law_deliver.specs.AmFlow.Pair.{BearerEnd, Pair, Deed, Calls, DataComes}
use Rattle.law_deliver.specs.AmFlow.Pair.{StatusComes, DataGoes, StatusGoes, Step, Near, Far}
use Rattle.law_deliver.specs.AmFlow.Pair.{Passes, happens, am_pair_outset, IsGiven}

pub data LifeStep : Type 0 where
  InLife : Step → LifeStep
  Restarts : Keys → LifeStep

abbrev pub lives_on : Pair → LifeStep → Pair
lives_on p (InLife s) = happens p s
lives_on p (Restarts keys) =
    am_pair_outset (restarts p.near.bearer keys) (restarts p.far.bearer keys)

abbrev pub lives : List LifeStep → Pair → Pair
lives [] p = p
lives (x ∷ xs) p = lives xs (lives_on p x)

-- ---- what is asked of them: besides what is asked of the steps of a life, that PDCP doesn't
-- refuse what is submitted

abbrev pub MayBeDone : State → Deed → Type 0
MayBeDone b (Calls c) = IsAccepted b.pdcp.tx c
MayBeDone b (DataComes k) = Unit {0}
MayBeDone b (StatusComes k) = Unit {0}
MayBeDone b (DataGoes k) = Unit {0}
MayBeDone b (StatusGoes k) = Unit {0}

abbrev pub MayHappen : Pair → Step → Type 0
MayHappen p (Near d) = MayBeDone p.near.bearer d
MayHappen p (Far d) = MayBeDone p.far.bearer d
MayHappen p Passes = Unit {0}

abbrev pub IsLiving : Pair → LifeStep → Type 0
IsLiving p (InLife s) = IsGiven p s × MayHappen p s
IsLiving p (Restarts keys) = Unit {0}

abbrev pub AreLiving : Pair → List LifeStep → Type 0
AreLiving p [] = Unit {0}
AreLiving p (x ∷ xs) = IsLiving p x × AreLiving (lives_on p x) xs

-- ---- what goes up at an end, and what an end takes for the first time

abbrev pub call_by : Option Copy → List Call
call_by None = []
call_by (Some c) = Arrive c.octets ∷ []

abbrev pub call_of : Option Report → List Call
call_of None = []
call_of (Some s) = Arrive s.octets ∷ []

-- the call of an end's bearer, by what the other has under way
abbrev pub calls_in : BearerEnd → Deed → List Call
calls_in other (Calls c) = c ∷ []
calls_in other (DataComes k) = call_by (slice_get other.copies k)
calls_in other (StatusComes k) = call_of (slice_get other.reports k)
calls_in other (DataGoes k) = []
calls_in other (StatusGoes k) = []

abbrev pub near_calls : Pair → Step → List Call
near_calls p (Near d) = calls_in p.far d
near_calls p (Far d) = []
near_calls p Passes = []

abbrev pub far_calls : Pair → Step → List Call
far_calls p (Near d) = []
far_calls p (Far d) = calls_in p.near d
far_calls p Passes = []

abbrev pub ups_by : State → List Call → List (List ℕ)
ups_by b [] = []
ups_by b (c ∷ cs) = ups_among (tells b c)

abbrev pub news_by : State → List Call → List (List ℕ)
news_by b [] = []
news_by b (c ∷ cs) = news (Am b) c

abbrev pub far_ups_in : Pair → LifeStep → List (List ℕ)
far_ups_in p (InLife s) = ups_by p.far.bearer (far_calls p s)
far_ups_in p (Restarts keys) = ups_among (stopping (Am p.far.bearer))

abbrev pub near_ups_in : Pair → LifeStep → List (List ℕ)
near_ups_in p (InLife s) = ups_by p.near.bearer (near_calls p s)
near_ups_in p (Restarts keys) = ups_among (stopping (Am p.near.bearer))

abbrev pub near_news_in : Pair → LifeStep → List (List ℕ)
near_news_in p (InLife s) = news_by p.near.bearer (near_calls p s)
near_news_in p (Restarts keys) = []

abbrev pub far_news_in : Pair → LifeStep → List (List ℕ)
far_news_in p (InLife s) = news_by p.far.bearer (far_calls p s)
far_news_in p (Restarts keys) = []

-- through lives, in order
abbrev pub over : {A : Type 0} → (Pair → LifeStep → List A) → List LifeStep → Pair → List A
over what [] p = []
over what (x ∷ xs) p = what p x ++ over what xs (lives_on p x)
