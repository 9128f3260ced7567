-- In each direction an acknowledged bearer is a flow, of which RLC's sender and receiver are those
-- of the bearer at both ends (TS 36.322 5.1.3, 5.2).
use Rattle.std.specs.Prelude.{◌≡◌, List}
use Rattle.l2_types.specs.declared.config.AmTxConfig.{AmTxConfig}
use Rattle.l2_types.specs.declared.AmRxConfig.{AmRxConfig}
use Rattle.rlc_am_tx.specs.Machine.{start}
use Rattle.rlc_am_rx.specs.State.{fresh}
use Rattle.bearer.specs.Acknowledged.State.{State}
use Rattle.law_rlc.specs.AmPair.Flow.{Flow, Step as FlowStep, sender, receiver}
use Rattle.law_rlc.specs.AmPair.Flow.{goes as flow_goes, am_rlc_outset}
use Rattle.law_rlc.specs.AmPair.Given.{AreGiven as AreGivenSteps}
use Rattle.law_deliver.specs.AmFlow.Pair.{BearerEnd, Pair, Step, goes, am_pair_outset}
use Rattle.law_deliver.specs.AmFlow.Pair.{AreGiven}

-- from an end to the other, with what is under way
pub record IsFlow (from to : BearerEnd) (f : Flow) : Type 0 where
  pub sender_is : (sender f).state ≡ from.bearer.tx
  pub receiver_is : (receiver f).state ≡ to.bearer.rx
  pub copies_are : f.copies ≡ from.copies
  pub reports_are : f.reports ≡ to.reports
  pub busy_is : f.busy ≡ from.busy

-- one that has come so by steps that keep what is asked of them
pub record HasFlow (sending : AmTxConfig) (receiving : AmRxConfig) (from to : BearerEnd) : Type 0
  where
    pub steps : List FlowStep
    pub given : AreGivenSteps (am_rlc_outset sending receiving) steps
    pub is : IsFlow from to (flow_goes steps (am_rlc_outset sending receiving))

-- RLC begins with a life
pub record BeginsLife (b : State) : Type 0 where
  pub sends : b.tx ≡ start b.tx_config
  pub hears : b.rx ≡ fresh b.rx_config

pub record HasFlows (near far : State) (p : Pair) : Type 0 where
  pub there : HasFlow near.tx_config far.rx_config p.near p.far
  pub back : HasFlow far.tx_config near.rx_config p.far p.near

abbrev pub BearersAreFlows : Type 0
BearersAreFlows = (near far : State) (steps : List Step) → BeginsLife near → BeginsLife far
    → AreGiven (am_pair_outset near far) steps
    → HasFlows near far (goes steps (am_pair_outset near far))
