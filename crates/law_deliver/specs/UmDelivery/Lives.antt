-- Both ends of a bearer of unacknowledged data through lives: in a life their steps, then both
-- begin the next one under the same keys (TS 36.322
-- 5.4, TS 36.323 5.2).
use Rattle.std.specs.Prelude.{ℕ, List, [], ◌∷◌, ◌++◌}
use Rattle.eps_sec.specs.declared.Keys.{Keys}
use Rattle.bearer.specs.declared.flow.Flow.TheVariants.{Um}
use Rattle.bearer.specs.Lives.{stopping}
use Rattle.bearer.specs.Unacknowledged.State.{State}
use Rattle.bearer.specs.Unacknowledged.Lives.{stopped, restarted}
use Rattle.law_bearer.specs.AnyBearer.Calls.{Call}
use Rattle.law_bearer.specs.AnyBearer.Queue.{news, submits}
use Rattle.law_bearer.specs.AmBearer.Calls.{ups_among}
use Rattle.law_deliver.specs.Accepted.{IsAccepted}
use Rattle.law_deliver.specs.UmFlow.Pair.{Pair, Step, called, goes, um_pair_outset, AreGiven}
use Rattle.law_deliver.specs.UmFlow.Pair.{AreShortThere}
use Rattle.law_deliver.specs.UmFlow.Pair.{AreShortBack}
use Rattle.law_deliver.specs.UmFlow.Calls.{near_calls, far_calls}
use Rattle.law_deliver.specs.UmFlow.Flows.{Way, there, back}
use Rattle.law_deliver.specs.UmFlow.Handing.{tells_all}

-- a life that has ended, and the keys of the next one
pub record Life : Type 0 where
  pub steps : List Step
  pub keys : Keys

-- ---- the next life: all that RLC can put together has gone up, and nothing that is under way
-- comes any more

abbrev pub next_near : State → State → Life → State
next_near near far l =
    restarted (stopped (goes l.steps (um_pair_outset near far)).near.bearer) l.keys

abbrev pub next_far : State → State → Life → State
next_far near far l = restarted (stopped (goes l.steps (um_pair_outset near far)).far.bearer) l.keys

-- ---- what is asked of them: besides what is asked of the steps of a life, that PDCP doesn't
-- refuse what is submitted

abbrev pub AreAccepted : State → List Call → Type 0
AreAccepted b [] = Unit {0}
AreAccepted b (c ∷ cs) = IsAccepted b.pdcp.tx c × AreAccepted (called b c) cs

pub record IsLiving (near far : State) (steps : List Step) : Type 0 where
  pub given : AreGiven (um_pair_outset near far) steps
  pub near_accepts : AreAccepted near (near_calls (um_pair_outset near far) steps)
  pub far_accepts : AreAccepted far (far_calls (um_pair_outset near far) steps)

-- lives that have ended, and the steps of the last one so far
abbrev pub AreLiving : State → State → List Life → List Step → Type 0
AreLiving near far [] steps = IsLiving near far steps
AreLiving near far (l ∷ ls) steps = IsLiving near far l.steps
    × AreLiving (next_near near far l) (next_far near far l) ls steps

-- ---- a direction of each life

pub data Direction : Type 0 where
  There : Direction
  Back : Direction

abbrev pub way : Direction → State → State → List Step → Way
way There near far steps = there near far steps
way Back near far steps = back near far steps

-- RLC's losses are short in it
abbrev pub AreShortIn : Direction → Pair → List Step → Type 0
AreShortIn There p steps = AreShortThere p steps
AreShortIn Back p steps = AreShortBack p steps

abbrev pub ended : Direction → State → State → List Life → List Way
ended d near far [] = []
ended d near far (l ∷ ls) =
    way d near far l.steps ∷ ended d (next_near near far l) (next_far near far l) ls

abbrev pub last : Direction → State → State → List Life → List Step → Way
last d near far [] steps = way d near far steps
last d near far (l ∷ ls) steps = last d (next_near near far l) (next_far near far l) ls steps

-- ---- what goes up at the end that hears, and what the end that sends takes for the first time and
-- is given

abbrev pub ups : Way → List (List ℕ)
ups w = ups_among (tells_all w.to w.to_calls)

-- also as the life ends
abbrev pub ups_to_end : Way → List (List ℕ)
ups_to_end w = ups w ++ ups_among (stopping (Um w.to_end.bearer))

abbrev pub news_by : State → List Call → List (List ℕ)
news_by b [] = []
news_by b (c ∷ cs) = news (Um b) c ++ news_by (called b c) cs

abbrev pub taken : Way → List (List ℕ)
taken w = news_by w.from w.from_calls

abbrev pub submits_by : List Call → List (List ℕ)
submits_by [] = []
submits_by (c ∷ cs) = submits c ++ submits_by cs

abbrev pub submitted : Way → List (List ℕ)
submitted w = submits_by w.from_calls

-- through lives, in order
abbrev pub all_ups : List Way → Way → List (List ℕ)
all_ups [] w = ups w
all_ups (v ∷ vs) w = ups_to_end v ++ all_ups vs w

abbrev pub all_taken : List Way → Way → List (List ℕ)
all_taken [] w = taken w
all_taken (v ∷ vs) w = taken v ++ all_taken vs w

abbrev pub all_submitted : List Way → Way → List (List ℕ)
all_submitted [] w = submitted w
all_submitted (v ∷ vs) w = submitted v ++ all_submitted vs w
