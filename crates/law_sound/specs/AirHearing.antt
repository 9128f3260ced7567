-- The acknowledged bearers of a channel at two ends beside the history of each of their flows, as a
-- block that is under way comes to an end (TS 36.321 5.3.3, TS 36.322 5.1.3.2).
use Rattle.std.specs.Prelude.{◌≡◌, ℕ, List, [], ◌++◌, Some, slice_get}
use Rattle.std.specs.List.{AllByRecursion}
use Rattle.bearer.specs.Acknowledged.State.{State}
use Rattle.bearer.specs.declared.flow.Flow.TheVariants.{Am}
use Rattle.bearer_types.specs.Sides.{sent_by}
use Rattle.l2_node.specs.End.{End}
use Rattle.l2_types.specs.declared.config.AmTxConfig.{AmTxConfig}
use Rattle.l2_types.specs.declared.AmRxConfig.{AmRxConfig}
use Rattle.l2_types.specs.declared.side.Side.{Side}
use Rattle.l2_types.specs.declared.side.Side.TheVariants.{Nb, Ue}
use Rattle.rlc_am_tx.specs.Machine.{State as Sender}
use Rattle.journal_account.specs.FlowEvents.{FlowEvent}
use Rattle.promises.specs.Pdus.{carried}
use Rattle.law_rlc.specs.AmPair.Flow.{Flow}
use Rattle.law_deliver.specs.AmFlow.Air.{Block, Station, Air, Step, comes, goes, outset, AreGiven}
use Rattle.law_deliver.specs.AmFlow.Air.{Begins}
use Rattle.law_deliver.specs.AmFlow.Flows.{BeginsLife}
use Rattle.law_deliver.specs.AmFlow.Links.{IsFlowOn}
use Rattle.law_deliver.specs.AmFlow.Reordering.{reordering_in}
use Rattle.law_deliver.specs.AmFlow.UnderWay.{AreFlowsByAir, flow_on}
use Rattle.law_deliver.specs.AmFlow.Ups.{tells_over}
use Rattle.law_account.specs.EndsTold.{AreEndsOf}
use Rattle.law_sound.specs.HearingLaws.{with_reordering, Brings, HasOneData, arrivals}

-- a life begins without events
abbrev pub LivesBegin : Type 0
LivesBegin = (from to : State) → BeginsLife from → BeginsLife to
    → AreEndsOf from.tx_config.max_retx [] from.tx to.rx

-- ---- a block comes

-- what the PDUs bring arrives, and then the history goes on by what the bearer tells of them
pub record GoesOnWith (most l : ℕ) (es : List FlowEvent) (f : Flow) (pdus : List (List ℕ))
    (tx : Sender) (b d : State) : Type 0 where
  pub came : List FlowEvent
  pub brings : Brings f pdus came
  pub ends : AreEndsOf most
      (with_reordering (reordering_in (tells_over l (Am b) (arrivals pdus))) (came ++ es)) tx d.rx

-- one of the blocks that a side has under way comes to the other end, which has then another bearer
abbrev pub HearsBlocks : (l : ℕ) (side : Side) (sending : AmTxConfig) (receiving : AmRxConfig)
    (from to : Station) → IsFlowOn l sending receiving from.end to.end → Type 0
HearsBlocks l side sending receiving from to out =
    (most k : ℕ) (es : List FlowEvent) (block : Block) → slice_get from.blocks k ≡ Some block
    → (behind : IsFlowOn l sending receiving from.end (comes to (Some block)).end)
    → AreEndsOf most es out.from_bearer.tx out.to_bearer.rx
    → GoesOnWith most l es (flow_on l sending receiving from.end to.end out)
    (carried l (sent_by side) block.octets) out.from_bearer.tx out.to_bearer behind.to_bearer

-- ---- the law, down and up

pub record HearByAir (l : ℕ) (nb ue : State) (a : Air) (h : AreFlowsByAir l nb ue a) : Type 0 where
  pub at_ue : HearsBlocks l Nb nb.tx_config ue.rx_config a.nb a.ue h.flows.down
  pub at_nb : HearsBlocks l Ue ue.tx_config nb.rx_config a.ue a.nb h.flows.up

abbrev pub EndsHearByAir : Type 0
EndsHearByAir = (l : ℕ) (nb ue : End) (b d : State) (steps : List Step) → Begins Nb l nb b
    → Begins Ue l ue d → AreGiven l (outset nb ue) steps
    → (h : AreFlowsByAir l b d (goes steps (outset nb ue)))
    → HearByAir l b d (goes steps (outset nb ue)) h

-- ---- each block under way has one data PDU of the channel at most

abbrev pub HasOneOn : ℕ → Side → Block → Type 0
HasOneOn l side block = HasOneData (carried l (sent_by side) block.octets)

pub record BringOneData (l : ℕ) (a : Air) : Type 0 where
  pub by_nb : AllByRecursion (HasOneOn l Nb) a.nb.blocks
  pub by_ue : AllByRecursion (HasOneOn l Ue) a.ue.blocks

abbrev pub BlocksBringOneData : Type 0
BlocksBringOneData = (l : ℕ) (nb ue : End) (b d : State) (steps : List Step) → Begins Nb l nb b
    → Begins Ue l ue d → AreGiven l (outset nb ue) steps
    → BringOneData l (goes steps (outset nb ue))
