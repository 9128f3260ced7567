-- The measure of a link in a drain: what all channels have still to send, in both directions
-- (TS 36.321 5.3, 5.4).
use Rattle.std.specs.Prelude.{ℕ, ◌+◌, ◌≤◌, Bool, List, [], ◌∷◌}
use Rattle.std.specs.List.{AllByRecursion}
use Rattle.air_link.specs.Link.{Link}
use Rattle.law_node.specs.Holding.{flow}
use Rattle.law_drain.specs.Channels.{Measured, channel_measure}
use Rattle.law_run.specs.AnyCalls.Zero.{HaveCome}
use Rattle.law_run.specs.DrainTtis.{Step, Tti, goes, ttis, HaveChannel}
use Rattle.law_run.specs.DrainRounds.{IsOfDrain, MayDrain}
use Rattle.law_run.specs.DrainFlows.{rounds_of}

-- the channels of a list
abbrev pub AllMeasured : List ℕ → Link → Type 0
AllMeasured [] k = Unit {0}
AllMeasured (l ∷ ls) k = Measured (flow l k.nb) (flow l k.ue) × AllMeasured ls k

abbrev pub link_measure : (ls : List ℕ) (k : Link) → AllMeasured ls k → ℕ
link_measure [] k h = 0
link_measure (l ∷ ls) k h = channel_measure (flow l k.nb) (flow l k.ue) h.0 + link_measure ls k h.1

-- whatever calls both ends have come by, they are measured
abbrev pub LinksAreMeasured : Type 0
LinksAreMeasured = (ls : List ℕ) (k : Link) → HaveCome k → AllMeasured ls k

-- a channel that both ends have
abbrev pub IsChannelOn : Link → ℕ → Type 0
IsChannelOn k l = (l ≤ 10) × HaveChannel l k

pub record LinkFallsTo (ls : List ℕ) (k m : Link) (h : AllMeasured ls k) : Type 0 where
  pub left : AllMeasured ls m
  pub falls : link_measure ls m left ≤ link_measure ls k h

-- behind eight TTIs of a drain, through any rounds of it
abbrev pub LinksNeverRise : Type 0
LinksNeverRise = (steps : List Step) (grant : ℕ) (rounds : List Bool) (k : Link) (ls : List ℕ)
    → AllByRecursion IsOfDrain steps → 8 ≤ ttis steps → IsOfDrain (Tti grant) → MayDrain k
    → AllByRecursion (IsChannelOn k) ls → (h : AllMeasured ls (goes steps k))
    → LinkFallsTo ls (goes steps k) (goes (rounds_of grant rounds) (goes steps k)) h
