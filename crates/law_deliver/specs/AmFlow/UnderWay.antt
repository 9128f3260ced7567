-- What the blocks under way carry of an acknowledged bearer is under way in its two flows: its data
-- PDUs in the one out, its STATUS PDUs in the one back (TS 36.322 5.1.3, 5.2.3).
use Rattle.std.specs.Prelude.{◌≡◌, ℕ, List, Ok, Some, slice_get}
use Rattle.std.specs.List.{AllByRecursion}
use Rattle.l2_types.specs.declared.config.AmTxConfig.{AmTxConfig}
use Rattle.l2_types.specs.declared.AmRxConfig.{AmRxConfig}
use Rattle.l2_types.specs.declared.side.Side.TheVariants.{Nb, Ue}
use Rattle.mac_pdu.specs.declared.item.Direction.{Direction}
use Rattle.rlc_pdu.specs.Pdus.{StatusPdu, Status}
use Rattle.rlc_pdu.specs.Reading.{am_at}
use Rattle.bearer.specs.Acknowledged.State.{State}
use Rattle.bearer_types.specs.Sides.{sent_by}
use Rattle.l2_node.specs.End.{End}
use Rattle.law_rlc.specs.AmPair.Flow.{Copy, Report, Flow, Step as FlowStep, goes as flow_goes}
use Rattle.law_rlc.specs.AmPair.Flow.{am_rlc_outset}
use Rattle.law_rlc.specs.AmPair.Given.{AreGiven as AreGivenSteps}
use Rattle.law_rlc.specs.AmPair.Statuses.{reduced}
use Rattle.promises.specs.Pdus.{carried}
use Rattle.law_deliver.specs.AmFlow.Air.{Block, Air, Step, goes, outset, AreGiven, Begins}
use Rattle.law_deliver.specs.AmFlow.Links.{IsFlowOn, AreFlowsOn}

-- a data PDU, or a STATUS that is as old as the block
pub data IsUnderWay (out back : Flow) (age : ℕ) (octets : List ℕ) : Type 0 where
  AsData : (c : Copy) (k : ℕ) → slice_get out.copies k ≡ Some c → c.octets ≡ octets
      → IsUnderWay out back age octets
  AsStatus : (r : Report) (k : ℕ) → slice_get back.reports k ≡ Some r → r.octets ≡ octets
      → r.age ≡ age → IsUnderWay out back age octets

-- each PDU of the channel in a block is
abbrev pub CarriesFlows : ℕ → Direction → Flow → Flow → Block → Type 0
CarriesFlows l d out back b =
    AllByRecursion (IsUnderWay out back b.age) (carried l d b.octets)

abbrev pub flow_on : (l : ℕ) (sending : AmTxConfig) (receiving : AmRxConfig) (from to : End)
    → IsFlowOn l sending receiving from to → Flow
flow_on l sending receiving from to h = flow_goes h.steps (am_rlc_outset sending receiving)

-- down and up
pub record AreFlowsByAir (l : ℕ) (nb ue : State) (a : Air) : Type 0 where
  pub flows : AreFlowsOn l nb ue a
  pub by_nb : AllByRecursion (CarriesFlows l (sent_by Nb)
      (flow_on l nb.tx_config ue.rx_config a.nb.end a.ue.end flows.down)
      (flow_on l ue.tx_config nb.rx_config a.ue.end a.nb.end flows.up)) a.nb.blocks
  pub by_ue : AllByRecursion (CarriesFlows l (sent_by Ue)
      (flow_on l ue.tx_config nb.rx_config a.ue.end a.nb.end flows.up)
      (flow_on l nb.tx_config ue.rx_config a.nb.end a.ue.end flows.down)) a.ue.blocks

abbrev pub BlocksCarryFlows : Type 0
BlocksCarryFlows = (l : ℕ) (nb ue : End) (b d : State) (steps : List Step) → Begins Nb l nb b
    → Begins Ue l ue d → AreGiven l (outset nb ue) steps
    → AreFlowsByAir l b d (goes steps (outset nb ue))

-- ---- so one of them that reads as a STATUS was written for the ACK and the entries of a report

pub record IsOfReport (f : Flow) (age : ℕ) (status : StatusPdu) : Type 0 where
  pub report : Report
  pub place : ℕ
  pub there : slice_get f.reports place ≡ Some report
  pub aged : report.age ≡ age
  pub is : status ≡ reduced report

abbrev pub StatusesAreOfReports : Type 0
StatusesAreOfReports = (sending other_sending : AmTxConfig) (receiving other_receiving : AmRxConfig)
    (out back : List FlowStep) (age : ℕ) (octets : List ℕ) (status : StatusPdu)
    → AreGivenSteps (am_rlc_outset sending other_receiving) out
    → AreGivenSteps (am_rlc_outset other_sending receiving) back
    → IsUnderWay (flow_goes out (am_rlc_outset sending other_receiving))
    (flow_goes back (am_rlc_outset other_sending receiving)) age octets
    → am_at octets ≡ Ok (Status status)
    → IsOfReport (flow_goes back (am_rlc_outset other_sending receiving)) age status
