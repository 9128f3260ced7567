-- Each acknowledged bearer of two ends is a flow, in each direction and in each life
-- (TS 36.322 5.1.3, 5.2).
use Rattle.std.specs.Prelude.{◌≡◌, ℕ, ◌+◌, ◌≤◌, List}
use Rattle.l2_types.specs.declared.config.AmTxConfig.{AmTxConfig}
use Rattle.l2_types.specs.declared.AmRxConfig.{AmRxConfig}
use Rattle.law_rlc.specs.AmPair.Flow.{Step as FlowStep, sender, receiver, goes as flow_goes}
use Rattle.law_rlc.specs.AmPair.Flow.{am_rlc_outset}
use Rattle.rlc_am_tx_window.specs.Window.{next}
use Rattle.rlc_am_rx_window.specs.Window.{top}
use Rattle.rlc_am_rx.specs.State.{State as Receiver}
use Rattle.rlc_am_tx.specs.Machine.{State as Sender}
use Rattle.law_rlc.specs.AmPair.Given.{AreGiven as AreGivenSteps}
use Rattle.bearer.specs.declared.flow.Flow.TheVariants.{Am}
use Rattle.bearer.specs.Acknowledged.State.{State}
use Rattle.l2_node.specs.End.{End}
use Rattle.l2_types.specs.declared.side.Side.TheVariants.{Nb, Ue}
use Rattle.law_node.specs.Holding.{flow}
use Rattle.law_deliver.specs.AmFlow.Air.{Air, Step, goes, outset, AreGiven, Begins}
use Rattle.rlc_pdu.specs.declared.constants.TheConstants.{AM_WINDOW_SIZE}

-- on a channel, from an end to another: RLC's sender at the one and RLC's receiver at the other are
-- those of a flow, which has come so by steps that keep what is asked of them
pub record IsFlowOn (l : ℕ) (sending : AmTxConfig) (receiving : AmRxConfig) (from to : End) : Type
    0 where
  pub from_bearer : State
  pub from_is : flow l from ≡ Am from_bearer
  pub to_bearer : State
  pub to_is : flow l to ≡ Am to_bearer
  pub steps : List FlowStep
  pub given : AreGivenSteps (am_rlc_outset sending receiving) steps
  pub sender_is : (sender (flow_goes steps (am_rlc_outset sending receiving))).state
      ≡ from_bearer.tx
  pub receiver_is : (receiver (flow_goes steps (am_rlc_outset sending receiving))).state
      ≡ to_bearer.rx

-- down and up
pub record AreFlowsOn (l : ℕ) (nb ue : State) (a : Air) : Type 0 where
  pub down : IsFlowOn l nb.tx_config ue.rx_config a.nb.end a.ue.end
  pub up : IsFlowOn l ue.tx_config nb.rx_config a.ue.end a.nb.end

abbrev pub ChannelsAreFlows : Type 0
ChannelsAreFlows = (l : ℕ) (nb ue : End) (b d : State) (steps : List Step) → Begins Nb l nb b
    → Begins Ue l ue d → AreGiven l (outset nb ue) steps
    → AreFlowsOn l b d (goes steps (outset nb ue))

-- ---- so the numbers at both ends are in order: VT(A) ≤ VR(R) ≤ VR(MS) ≤ VR(H) ≤ VT(S) ≤ VT(A) +
-- 512

pub record AreOrdered (tx : Sender) (rx : Receiver) : Type 0 where
  pub least : tx.window.base ≤ rx.window.front
  pub bound : rx.window.front ≤ rx.bound
  pub highest : rx.bound ≤ top rx.window
  pub sent : top rx.window ≤ next tx.window
  pub window : next tx.window ≤ tx.window.base + AM_WINDOW_SIZE

abbrev pub NumbersAreOrdered : Type 0
NumbersAreOrdered = (l : ℕ) (nb ue : End) (b d : State) (steps : List Step) → Begins Nb l nb b
    → Begins Ue l ue d → AreGiven l (outset nb ue) steps
    → (x y : State) → flow l (goes steps (outset nb ue)).nb.end ≡ Am x
    → flow l (goes steps (outset nb ue)).ue.end ≡ Am y
    → AreOrdered x.tx y.rx × AreOrdered y.tx x.rx
