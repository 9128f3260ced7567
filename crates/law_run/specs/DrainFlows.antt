-- What the rounds of a drain cost the acknowledged flows of a link, in both directions (TS 36.322
-- 5.1.3, 5.2).
use Rattle.std.specs.Prelude.{◌≡◌, ℕ, ◌≤◌, Bool, List, [], ◌∷◌, ◌++◌}
use Rattle.std.specs.List.{AllByRecursion}
use Rattle.air_link.specs.Link.{Link}
use Rattle.bearer.specs.Acknowledged.State.{State}
use Rattle.bearer.specs.declared.flow.Flow.TheVariants.{Am}
use Rattle.l2_node.specs.End.{End}
use Rattle.l2_types.specs.declared.side.Side.{Side}
use Rattle.law_bearer.specs.AnyBearer.Rounds.{Round, nb_calls, ue_calls}
use Rattle.law_node.specs.Holding.{flow}
use Rattle.law_drain.specs.Ends.{Stands, measure_from, CostsFrom, nb_tti, ue_tti}
use Rattle.law_run.specs.AnyCalls.Zero.{HasCome}
use Rattle.law_run.specs.DrainTtis.{Step, Tti, goes, ttis, HaveChannel}
use Rattle.law_run.specs.DrainRounds.{IsOfDrain, MayDrain, round_of}

-- ---- the flows of a channel

-- whatever calls an end has come by, an acknowledged bearer of it stands between two of its own
abbrev pub BearersStand : Type 0
BearersStand = (side : Side) (e : End) (l : ℕ) (b : State) → HasCome side e → flow l e ≡ Am b
    → Stands b

pub record HasFlows (l : ℕ) (k : Link) : Type 0 where
  pub nb : State
  pub ue : State
  pub nb_is : flow l k.nb ≡ Am nb
  pub ue_is : flow l k.ue ≡ Am ue
  pub nb_stands : Stands nb
  pub ue_stands : Stands ue

-- what their ends may still send, what is pending, and whether they are quiet
abbrev pub down_measure : (l : ℕ) (k : Link) → HasFlows l k → ℕ
down_measure l k h = measure_from h.nb h.nb_stands.lived h.ue

abbrev pub up_measure : (l : ℕ) (k : Link) → HasFlows l k → ℕ
up_measure l k h = measure_from h.ue h.ue_stands.lived h.nb

-- ---- a round

-- what it costs them
pub record CostsFlows (l : ℕ) (polls : Bool) (k m : Link) (h : HasFlows l k) : Type 0 where
  pub left : HasFlows l m
  pub round : Round
  pub polls_are : round.polls ≡ polls
  pub down : CostsFrom h.nb h.ue left.nb left.ue h.nb_stands.lived left.nb_stands.lived
      (nb_calls round (Am h.nb) (Am h.ue)) (ue_tti round h.nb h.ue)
  pub up : CostsFrom h.ue h.nb left.ue left.nb h.ue_stands.lived left.ue_stands.lived
      (ue_calls round (Am h.nb) (Am h.ue)) (nb_tti round h.nb h.ue)

-- behind eight TTIs
abbrev pub RoundsCostFlows : Type 0
RoundsCostFlows = (steps : List Step) (grant : ℕ) (polls : Bool) (k : Link) (l : ℕ)
    → AllByRecursion IsOfDrain steps → 8 ≤ ttis steps → IsOfDrain (Tti grant) → l ≤ 10
    → MayDrain k → HaveChannel l k → (h : HasFlows l (goes steps k))
    → CostsFlows l polls (goes steps k) (goes (round_of grant polls) (goes steps k)) h

-- ---- any rounds

-- with the timers of senders in some
abbrev pub rounds_of : ℕ → List Bool → List Step
rounds_of grant [] = []
rounds_of grant (polls ∷ more) = round_of grant polls ++ rounds_of grant more

pub record NoneRises (l : ℕ) (k m : Link) (h : HasFlows l k) : Type 0 where
  pub left : HasFlows l m
  pub down : down_measure l m left ≤ down_measure l k h
  pub up : up_measure l m left ≤ up_measure l k h

abbrev pub FlowsNeverRise : Type 0
FlowsNeverRise = (steps : List Step) (grant : ℕ) (rounds : List Bool) (k : Link) (l : ℕ)
    → AllByRecursion IsOfDrain steps → 8 ≤ ttis steps → IsOfDrain (Tti grant) → l ≤ 10
    → MayDrain k → HaveChannel l k → (h : HasFlows l (goes steps k))
    → NoneRises l (goes steps k) (goes (rounds_of grant rounds) (goes steps k)) h
