-- What a bearer of acknowledged data delivers, in each direction and through lives (TS 36.323 5.1,
-- 5.2).
use Rattle.std.specs.Prelude.{◌≡◌, ℕ, ◌<◌, ◌^◌, List}
use Rattle.bearer.specs.Acknowledged.State.{State}
use Rattle.bearer_types.specs.declared.BearerConfig.{BearerConfig}
use Rattle.bearer_types.specs.Configs.{IsConfig}
use Rattle.eps_sec.specs.declared.Keys.{Keys}
use Rattle.l2_types.specs.declared.Kind.TheVariants as kinds
use Rattle.l2_types.specs.declared.Side.TheVariants.{Nb, Ue}
use Rattle.bearer.specs.Bearer.{flow_of}
use Rattle.bearer.specs.declared.flow.Flow.TheVariants.{Am}
use Rattle.pdcp_sec.specs.Protection.{Protection}
use Rattle.law_bearer.specs.AmBearer.Lives.{protection_at}
use Rattle.law_words.specs.Lists.{AreFirstSdus}
use Rattle.law_pdcp.specs.AmPair.Flow.{Event, run_am_pdcp, am_pdcp_outset}
use Rattle.law_pdcp.specs.AmPair.Flow.{AreGiven as AreGivenEvents}
use Rattle.law_deliver.specs.AmFlow.Pair.{am_pair_outset}
use Rattle.law_deliver.specs.AmDelivery.Lives.{LifeStep, lives, AreLiving, over, far_ups_in}
use Rattle.law_deliver.specs.AmDelivery.Lives.{near_ups_in, near_news_in, far_news_in}

-- in a direction: PDCP's sender at an end and PDCP's receiver at the other are those of a flow of
-- `law_pdcp`, which has come so by events that can happen; its SDUs are those that the one took, in
-- order, and what went up of it is what went up at the other
pub record IsPdcpFlow (bits : ℕ) (p : Protection) (first : ℕ) (from to : State)
    (news ups : List (List ℕ)) : Type 0 where
  pub events : List Event
  pub given : AreGivenEvents (am_pdcp_outset bits p first) events
  pub sender_is : (run_am_pdcp events (am_pdcp_outset bits p first)).sender ≡ from.pdcp.tx
  pub receiver_is : (run_am_pdcp events (am_pdcp_outset bits p first)).receiver ≡ to.pdcp.rx
  pub sdus_are : (run_am_pdcp events (am_pdcp_outset bits p first)).sdus ≡ news
  pub ups_are : (run_am_pdcp events (am_pdcp_outset bits p first)).up ≡ ups

-- both ends of a bearer as its first life begins; a COUNT has 32 bits
pub record AreBothEnds (c : BearerConfig) (keys : Keys) (nb ue : State) : Type 0 where
  pub config : IsConfig c
  pub first : c.first < 2 ^ 32
  pub kind : c.kind ≡ kinds.Am
  pub nb_is : flow_of c.kind c keys Nb ≡ Am nb
  pub ue_is : flow_of c.kind c keys Ue ≡ Am ue

pub record ArePdcpFlows (c : BearerConfig) (keys : Keys) (nb ue : State) (steps : List LifeStep) :
    Type 0 where
  pub down : IsPdcpFlow c.pdcp_bits (protection_at c keys Nb) c.first
      (lives steps (am_pair_outset nb ue)).near.bearer
      (lives steps (am_pair_outset nb ue)).far.bearer
      (over near_news_in steps (am_pair_outset nb ue))
      (over far_ups_in steps (am_pair_outset nb ue))
  pub up : IsPdcpFlow c.pdcp_bits (protection_at c keys Ue) c.first
      (lives steps (am_pair_outset nb ue)).far.bearer
      (lives steps (am_pair_outset nb ue)).near.bearer
      (over far_news_in steps (am_pair_outset nb ue))
      (over near_ups_in steps (am_pair_outset nb ue))

abbrev pub BearersArePdcpFlows : Type 0
BearersArePdcpFlows = (c : BearerConfig) (keys : Keys) (nb ue : State) (steps : List LifeStep)
    → AreBothEnds c keys nb ue → AreLiving (am_pair_outset nb ue) steps
    → ArePdcpFlows c keys nb ue steps

-- what went up at an end are the SDUs that the other took first: in their order, each once and
-- unchanged
pub record AreDelivered (nb ue : State) (steps : List LifeStep) : Type 0 where
  pub down : AreFirstSdus (over far_ups_in steps (am_pair_outset nb ue))
      (over near_news_in steps (am_pair_outset nb ue))
  pub up : AreFirstSdus (over near_ups_in steps (am_pair_outset nb ue))
      (over far_news_in steps (am_pair_outset nb ue))

abbrev pub DeliversInOrder : Type 0
DeliversInOrder = (c : BearerConfig) (keys : Keys) (nb ue : State) (steps : List LifeStep)
    → AreBothEnds c keys nb ue → AreLiving (am_pair_outset nb ue) steps
    → AreDelivered nb ue steps
