-- The STATUS PDUs that a new block carries of a channel with an acknowledged bearer are true of the
-- flow that the bearer hears, as they are gathered from a journal (TS 36.321 5.4.3.1, TS 36.322
-- 5.2.3, 6.2.1.6).
use Rattle.std.specs.Prelude.{◌≡◌, ◌≤◌, ℕ, List, ◌++◌, length, Some}
use Rattle.std.specs.List.{AllByRecursion}
use Rattle.bearer.specs.Acknowledged.State.{State}
use Rattle.bearer_types.specs.Sides.{sent_by}
use Rattle.l2_node.specs.End.{End}
use Rattle.l2_types.specs.declared.config.AmTxConfig.{AmTxConfig}
use Rattle.l2_types.specs.declared.AmRxConfig.{AmRxConfig}
use Rattle.l2_types.specs.declared.event.How.TheVariants as hows
use Rattle.l2_types.specs.declared.side.Side.{Side}
use Rattle.l2_types.specs.declared.side.Side.TheVariants.{Nb, Ue}
use Rattle.law_node.specs.Calls.{Call as EndCall}
use Rattle.rlc_pdu.specs.Reading.{am_at}
use Rattle.journal_account.specs.declared.entry.StatusEntry.{StatusEntry}
use Rattle.journal_account.specs.FlowEvents.{FlowEvent}
use Rattle.journal_account.specs.TrueStatus.{IsTrueStatus}
use Rattle.journal_flows.specs.declared.parcels.Parcel.TheVariants.{Report}
use Rattle.journal_flows.specs.NumberedPdus.{front_in, parcel_by}
use Rattle.promises.specs.Pdus.{carried}
use Rattle.law_deliver.specs.AmChannel.Arrival.{built_in}
use Rattle.law_deliver.specs.AmFlow.Air.{Station, Air, Calls, Step, goes, outset, IsDone, AreGiven}
use Rattle.law_deliver.specs.AmFlow.Air.{Begins}
use Rattle.law_deliver.specs.AmFlow.Links.{IsFlowOn, AreFlowsOn}
use Rattle.law_account.specs.EndsTold.{AreEndsOf}
use Rattle.law_sound.specs.HearingLaws.{ReadsAsData}

-- ---- of a history so far, and VT(S) of the flow that the bearer sends

-- a PDU is gathered as a STATUS, with numbers with which it is true
pub record IsReportTrue (es : List FlowEvent) (next l : ℕ) (octets : List ℕ) : Type 0 where
  pub ack : ℕ
  pub entries : List StatusEntry
  pub gathered : parcel_by next (front_in es) l hows.Status (am_at octets)
      ≡ Some (Report l ack entries)
  pub is_true : IsTrueStatus es ack entries

-- first such PDUs, and then one data PDU at most
pub record AreReportsTrue (es : List FlowEvent) (next l : ℕ) (pdus : List (List ℕ)) : Type 0 where
  pub statuses : List (List ℕ)
  pub behind : List (List ℕ)
  pub are : pdus ≡ statuses ++ behind
  pub are_true : AllByRecursion (IsReportTrue es next l) statuses
  pub are_data : AllByRecursion ReadsAsData behind
  pub one : length behind ≤ 1

-- so each that is gathered as a STATUS is true
abbrev pub IsTrueAsGathered : List FlowEvent → ℕ → ℕ → List ℕ → Type 0
IsTrueAsGathered es next l octets = (ack : ℕ) (entries : List StatusEntry)
    → parcel_by next (front_in es) l hows.Status (am_at octets) ≡ Some (Report l ack entries)
    → IsTrueStatus es ack entries

abbrev pub ReportsAreTrue : Type 0
ReportsAreTrue = (es : List FlowEvent) (next l : ℕ) (pdus : List (List ℕ))
    → AreReportsTrue es next l pdus → AllByRecursion (IsTrueAsGathered es next l) pdus

-- ---- a new block, in a call of the end that hears a flow from the other

abbrev pub WritesTruly : (l : ℕ) (side : Side) (sending : AmTxConfig) (receiving : AmRxConfig)
    (from to : Station) → IsFlowOn l sending receiving from.end to.end → Type 0
WritesTruly l side sending receiving from to out =
    (most next : ℕ) (es : List FlowEvent) (c : EndCall) → IsDone l to (Calls c)
    → AreEndsOf most es out.from_bearer.tx out.to_bearer.rx
    → AllByRecursion (λ octets. AreReportsTrue es next l (carried l (sent_by side) octets))
    (built_in to.end c)

-- ---- the law, down and up

pub record WriteTruly (l : ℕ) (nb ue : State) (a : Air) (h : AreFlowsOn l nb ue a) : Type 0 where
  pub at_ue : WritesTruly l Ue nb.tx_config ue.rx_config a.nb a.ue h.down
  pub at_nb : WritesTruly l Nb ue.tx_config nb.rx_config a.ue a.nb h.up

abbrev pub EndsWriteTruly : Type 0
EndsWriteTruly = (l : ℕ) (nb ue : End) (b d : State) (steps : List Step) → Begins Nb l nb b
    → Begins Ue l ue d → AreGiven l (outset nb ue) steps
    → (h : AreFlowsOn l b d (goes steps (outset nb ue)))
    → WriteTruly l b d (goes steps (outset nb ue)) h
