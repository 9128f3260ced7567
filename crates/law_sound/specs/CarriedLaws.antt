-- As a block that is under way comes to an end, the parcels that are gathered of its PDUs add to
-- the histories of flows what it brings (docs/formats/JOURNAL.md; TS 36.321 5.3.2, TS 36.322
-- 5.1.3.2, 5.2.1).
use Rattle.std.specs.Prelude.{◌≡◌, ◌<◌, ◌≤◌, ℕ, ◌+◌, ◌==◌, if◌then◌else◌, List, [], ◌∷◌, map, Some}
use Rattle.std.specs.Prelude.{Result, Ok, Err}
use Rattle.std.specs.Prelude.{option_to_list, slice_get}
use Rattle.std.specs.List.{AllByRecursion, flat_map}
use Rattle.l2_types.specs.declared.config.AmTxConfig.{AmTxConfig}
use Rattle.l2_types.specs.declared.AmRxConfig.{AmRxConfig}
use Rattle.l2_types.specs.declared.side.Side.{Side}
use Rattle.l2_types.specs.declared.side.Side.TheVariants.{Nb, Ue}
use Rattle.rlc_pdu.specs.declared.fault.RlcRefusal.{RlcRefusal}
use Rattle.rlc_pdu.specs.Pdus.{AcknowledgedPdu, AmdPdu, Payload, Status as Control}
use Rattle.rlc_pdu.specs.Reading.{am_at}
use Rattle.rlc_am_rx_window.specs.Piece.{octets_in, so_of}
use Rattle.rlc_am_tx_window.specs.Window.{TxWindow, next}
use Rattle.bearer.specs.Acknowledged.State.{State}
use Rattle.bearer.specs.declared.flow.Flow.TheVariants.{Am}
use Rattle.bearer_types.specs.Sides.{other}
use Rattle.l2_node.specs.End.{End}
use Rattle.journal_account.specs.FlowEvents.{FlowEvent, StatusHeard, next_of}
use Rattle.journal_lives.specs.LifeEvents.{running}
use Rattle.journal_flows.specs.declared.parcels.Parcel.{Parcel}
use Rattle.journal_flows.specs.declared.parcels.Parcel.TheVariants.{Octets, Pieces, Report}
use Rattle.journal_flows.specs.FlowsTold.{Histories, histories}
use Rattle.journal_flows.specs.Gathering.{all_come}
use Rattle.journal_flows.specs.Possible.{most_octets}
use Rattle.law_rlc.specs.AmPair.Flow.{Copy}
use Rattle.law_rlc.specs.AmPair.Statuses.{reduced}
use Rattle.law_deliver.specs.AmFlow.Air.{Block, Station, Air, Step, comes, goes, outset, AreGiven}
use Rattle.law_deliver.specs.AmFlow.Air.{Begins}
use Rattle.law_deliver.specs.AmFlow.Carrying.{CarriedPdu, Numbered, Reported, pdu_octets, Carried}
use Rattle.law_deliver.specs.AmFlow.Carrying.{carried_behind, carries_none, AreCarried}
use Rattle.law_deliver.specs.AmFlow.Links.{IsFlowOn}
use Rattle.law_deliver.specs.AmFlow.Reordering.{reordering_in}
use Rattle.law_deliver.specs.AmFlow.Ups.{tells_over}
use Rattle.law_account.specs.EndsTold.{AreEndsOf}
use Rattle.law_account.specs.LateStatus.{entries_of}
use Rattle.law_account.specs.TrueStatus.{HasTrueNumbers}
use Rattle.law_sound.specs.HearingLaws.{with_reordering, octets_of, arrivals}
use Rattle.law_sound.specs.NumberLaws.{parcel_of}

-- ---- what PDUs add as they come, one behind the other

-- to the history of their own flow
abbrev pub with_read : Copy → Result AcknowledgedPdu RlcRefusal → List FlowEvent → List FlowEvent
with_read c (Ok (Payload pdu)) es = octets_of c pdu ∷ es
with_read c (Ok (Control pdu)) es = es
with_read c (Err refused) es = es

abbrev pub with_data : CarriedPdu → List FlowEvent → List FlowEvent
with_data (Numbered c) es = with_read c (am_at c.octets) es
with_data (Reported r) es = es

abbrev pub with_all_data : List CarriedPdu → List FlowEvent → List FlowEvent
with_all_data [] es = es
with_all_data (p ∷ ps) es = with_all_data ps (with_data p es)

-- and to that of the flow that they report of
abbrev pub with_status : CarriedPdu → List FlowEvent → List FlowEvent
with_status (Numbered c) es = es
with_status (Reported r) es = StatusHeard r.ack (entries_of r) ∷ es

abbrev pub with_all_statuses : List CarriedPdu → List FlowEvent → List FlowEvent
with_all_statuses [] es = es
with_all_statuses (p ∷ ps) es = with_all_statuses ps (with_status p es)

-- ---- their parcels add just that

-- of some parcels those of an acknowledged channel
abbrev pub parcel_on : ℕ → Parcel → List Parcel
parcel_on l (Octets lcid n start end) =
    if lcid == l then Octets lcid n start end ∷ [] else []
parcel_on l (Report lcid ack entries) =
    if lcid == l then Report lcid ack entries ∷ [] else []
parcel_on l (Pieces lcid n size pieces) = []

abbrev pub parcels_on : ℕ → List Parcel → List Parcel
parcels_on l parcels = flat_map (parcel_on l) parcels

abbrev pub parcels_of : ℕ → List CarriedPdu → List Parcel
parcels_of l pdus = flat_map (λ (p : CarriedPdu). option_to_list (parcel_of l p)) pdus

-- each possible, where VT(S) of their own flow is `next` and that of the other `back`
abbrev pub IsPossibleAt : ℕ → ℕ → CarriedPdu → Type 0
IsPossibleAt next back (Numbered c) = (pdu : AmdPdu) → am_at c.octets ≡ Ok (Payload pdu)
    → (c.number < next) × (0 < octets_in pdu.elements)
    × (so_of pdu.segment + octets_in pdu.elements ≤ most_octets)
IsPossibleAt next back (Reported r) = r.ack ≤ back

pub record AreGatheredAs (from : Side) (l : ℕ) (pdus : List CarriedPdu) (parcels : List Parcel)
    (h : Histories) : Type 0 where
  pub own : running ((all_come histories from parcels h).acked from l)
      ≡ with_all_data pdus (running (h.acked from l))
  pub back : running ((all_come histories from parcels h).acked (other from) l)
      ≡ with_all_statuses pdus (running (h.acked (other from) l))

-- whatever stands among them of other channels
abbrev pub ParcelsBring : Type 0
ParcelsBring =
    (from : Side) (l : ℕ) (pdus : List CarriedPdu) (parcels : List Parcel) (h : Histories)
    → parcels_on l parcels ≡ parcels_of l pdus
    → AllByRecursion (IsPossibleAt (next_of (running (h.acked from l)))
    (next_of (running (h.acked (other from) l)))) pdus → AreGatheredAs from l pdus parcels h

-- ---- and the ends stay beside these histories

-- a STATUS has near the window of the sender to which it comes the numbers that it was written for
abbrev pub IsReportedTo : TxWindow → CarriedPdu → Type 0
IsReportedTo w (Numbered c) = Unit {0}
IsReportedTo w (Reported r) = (am_at r.octets ≡ Ok (Control (reduced r)))
    × HasTrueNumbers w (reduced r) r.ack (entries_of r)

-- one of the blocks that a side has under way comes to the other end, which has then another bearer
pub record BringsPdus (l : ℕ) (sending : AmTxConfig) (receiving : AmRxConfig) (from to : Station)
    (out : IsFlowOn l sending receiving from.end to.end) (block : Block) (pdus : List CarriedPdu)
    : Type 0 where
  pub data_pdus : (most : ℕ) (es : List FlowEvent)
      → (behind : IsFlowOn l sending receiving from.end (comes to (Some block)).end)
      → AreEndsOf most es out.from_bearer.tx out.to_bearer.rx
      → AreEndsOf most (with_reordering (reordering_in
      (tells_over l (Am out.to_bearer) (arrivals (map pdu_octets pdus)))) (with_all_data pdus es))
      out.from_bearer.tx behind.to_bearer.rx
  pub statuses : AllByRecursion (IsReportedTo out.to_bearer.tx.window) pdus
  pub possible : AllByRecursion (IsPossibleAt (next out.from_bearer.tx.window)
      (next out.to_bearer.tx.window)) pdus

abbrev pub BlocksBring : (l : ℕ) (sending : AmTxConfig) (receiving : AmRxConfig)
    (from to : Station) → IsFlowOn l sending receiving from.end to.end → List (List CarriedPdu)
    → Type 0
BlocksBring l sending receiving from to out pdus =
    (k : ℕ) (block : Block) (own : List CarriedPdu) → slice_get from.blocks k ≡ Some block
    → slice_get pdus k ≡ Some own → BringsPdus l sending receiving from to out block own

pub record BringByAir (l : ℕ) (nb ue : State) (a : Air) (c : Carried) (h : AreCarried l nb ue a c)
    : Type 0 where
  pub at_ue : BlocksBring l nb.tx_config ue.rx_config a.nb a.ue h.by_air.flows.down c.nb
  pub at_nb : BlocksBring l ue.tx_config nb.rx_config a.ue a.nb h.by_air.flows.up c.ue

-- at each moment of a life, whichever flows carry them
abbrev pub CarriedPdusCome : Type 0
CarriedPdusCome = (l : ℕ) (nb ue : End) (b d : State) (steps : List Step) → Begins Nb l nb b
    → Begins Ue l ue d → AreGiven l (outset nb ue) steps
    → (h : AreCarried l b d (goes steps (outset nb ue))
    (carried_behind l steps (outset nb ue) carries_none))
    → BringByAir l b d (goes steps (outset nb ue))
    (carried_behind l steps (outset nb ue) carries_none) h
