-- The rounds of a drain, as calls of the bearers of each channel (TS 36.321 5.3, 5.4, TS 36.322
-- 7.3): from the ninth TTI on what one end writes comes to the other at once.
use Rattle.std.specs.Prelude.{◌≡◌, ℕ, ◌≤◌, Bool, if◌then◌else◌, List, [], ◌∷◌}
use Rattle.std.specs.List.{AllByRecursion}
use Rattle.air_link.specs.Link.{Link}
use Rattle.l2_types.specs.declared.limits.TheConstants.{GREATEST_GRANT}
use Rattle.law_bearer.specs.AnyBearer.Rounds.{Round, IsRound}
use Rattle.law_node.specs.Holding.{flow}
use Rattle.law_run.specs.AnyCalls.Deeds.{entities}
use Rattle.law_run.specs.AnyCalls.Loops.{IsAtRest}
use Rattle.law_run.specs.AnyCalls.Zero.{HaveCome}
use Rattle.law_run.specs.DrainTtis.{Step, Tti, ReceiversExpire, SendersExpire, goes, ttis}
use Rattle.law_run.specs.DrainTtis.{HaveEight, HaveChannel, IsLoopOff}

-- each grant is one of a transport block
abbrev pub IsOfDrain : Step → Type 0
IsOfDrain (Tti grant) = (1 ≤ grant) × (grant ≤ GREATEST_GRANT)
IsOfDrain ReceiversExpire = Unit {0}
IsOfDrain SendersExpire = Unit {0}

-- ---- what holds as a drain begins stays so

-- both ends have come so far by calls, with eight processes each way, and no test loop is on
pub record MayDrain (k : Link) : Type 0 where
  pub eight : HaveEight (entities k)
  pub come : HaveCome k
  pub rests : IsAtRest k
  pub off : IsLoopOff k

abbrev pub DrainsStay : Type 0
DrainsStay = (steps : List Step) (k : Link) → AllByRecursion IsOfDrain steps → MayDrain k
    → MayDrain (goes steps k)

abbrev pub ChannelsStay : Type 0
ChannelsStay = (steps : List Step) (k : Link) (l : ℕ) → AllByRecursion IsOfDrain steps
    → MayDrain k → HaveChannel l k → HaveChannel l (goes steps k)

-- ---- a round

-- a TTI, behind it the timers of receivers, and where nothing was sent those of senders
abbrev pub round_of : ℕ → Bool → List Step
round_of grant polls =
    Tti grant ∷ ReceiversExpire ∷ (if polls then SendersExpire ∷ [] else [])

-- what it is to the bearers of a channel
pub record IsRoundOn (l : ℕ) (polls : Bool) (k m : Link) : Type 0 where
  pub round : Round
  pub polls_are : round.polls ≡ polls
  pub is : IsRound round (flow l k.nb) (flow l k.ue) (flow l m.nb) (flow l m.ue)

-- behind eight TTIs, on each channel that both ends have
abbrev pub RoundsAreCalls : Type 0
RoundsAreCalls = (steps : List Step) (grant : ℕ) (polls : Bool) (k : Link) (l : ℕ)
    → AllByRecursion IsOfDrain steps → 8 ≤ ttis steps → IsOfDrain (Tti grant) → l ≤ 10
    → MayDrain k → HaveChannel l k
    → IsRoundOn l polls (goes steps k) (goes (round_of grant polls) (goes steps k))
