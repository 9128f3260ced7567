-- The measure of a channel in a drain, whatever its mode (TS 36.322 4.2.1): what both its bearers
-- have still to send, and of acknowledged flows what is pending and whether they are quiet.
use Rattle.std.specs.Prelude.{ℕ, ◌+◌, ◌≤◌}
use Rattle.bearer.specs.declared.flow.Flow.{Flow}
use Rattle.bearer.specs.declared.flow.Flow.TheVariants.{Tm, Um, Am}
use Rattle.law_bearer.specs.AnyBearer.Calls.{after_all}
use Rattle.law_bearer.specs.AnyBearer.Rounds.{Round, IsRound, arrivals, writes_in}
use Rattle.law_drain.specs.Ends.{Stands, OffersOctets, measure_from}
use Rattle.law_drain.specs.Others.{waits_in}

-- acknowledged bearers are measured by the deeds of their lives
abbrev pub Measured : Flow → Flow → Type 0
Measured (Am nb) (Am ue) = Stands nb × Stands ue
Measured nb ue = Unit {0}

abbrev pub channel_measure : (nb ue : Flow) → Measured nb ue → ℕ
channel_measure (Am nb) (Am ue) h =
    measure_from nb h.0.lived ue + measure_from ue h.1.lived nb
channel_measure nb ue h = waits_in nb + waits_in ue

-- each PDU that PDCP of an acknowledged bearer may give RLC has an octet
abbrev pub OffersIn : Flow → Type 0
OffersIn (Tm b) = Unit {0}
OffersIn (Um b) = Unit {0}
OffersIn (Am b) = OffersOctets b

-- it is measured behind a round too, and has risen in none
pub record FallsTo (nb ue nb' ue' : Flow) (h : Measured nb ue) : Type 0 where
  pub left : Measured nb' ue'
  pub falls : channel_measure nb' ue' left ≤ channel_measure nb ue h

abbrev pub ChannelsNeverRise : Type 0
ChannelsNeverRise = (r : Round) (nb ue nb' ue' : Flow) → IsRound r nb ue nb' ue' → OffersIn nb
    → OffersIn (after_all ue (arrivals (writes_in r.down nb))) → (h : Measured nb ue)
    → FallsTo nb ue nb' ue' h
