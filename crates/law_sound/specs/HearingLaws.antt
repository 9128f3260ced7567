-- The receiver of an acknowledged bearer beside the history of its flow, through the calls of the
-- bearer and by what is told of them (TS 36.322 5.1.3.2).
use Rattle.std.specs.Prelude.{◌≡◌, ℕ, ◌+◌, ◌-◌, ◌%◌, List, [], ◌∷◌, ◌++◌, ◌≤◌, length, map, Ok}
use Rattle.std.specs.Prelude.{Some, slice_get, Option}
use Rattle.std.specs.List.{AllByRecursion}
use Rattle.l2_types.specs.declared.config.AmTxConfig.{AmTxConfig}
use Rattle.l2_types.specs.declared.AmRxConfig.{AmRxConfig}
use Rattle.rlc_pdu.specs.Pdus.{AmdPdu, StatusPdu, Payload, Status as Control}
use Rattle.rlc_pdu.specs.Reading.{am_at}
use Rattle.rlc_am_rx_window.specs.Piece.{octets_in, so_of}
use Rattle.rlc_pdu.specs.declared.constants.TheConstants.{AM_MODULUS}
use Rattle.rlc_am_rx.specs.State.{State as Receiver}
use Rattle.rlc_am_rx.specs.Status.{ack, nacks}
use Rattle.rlc_am_tx.specs.Machine.{State as Sender}
use Rattle.bearer.specs.Acknowledged.State.{State}
use Rattle.bearer.specs.Acknowledged.Taking.{status_pdus}
use Rattle.bearer.specs.Taking.{pdus}
use Rattle.bearer.specs.declared.flow.Flow.TheVariants.{Am}
use Rattle.journal_account.specs.FlowEvents.{FlowEvent, OctetsArrived, ReorderStarted}
use Rattle.journal_account.specs.FlowEvents.{ReorderExpired}
use Rattle.law_rlc.specs.AmReceiver.Run.{Call as ReceiverCall, state_after}
use Rattle.law_rlc.specs.AmPair.Flow.{Copy, Flow, Step, sender, receiver, goes, am_rlc_outset}
use Rattle.law_rlc.specs.AmPair.Given.{AreGiven}
use Rattle.law_rlc.specs.AmPair.Arrives.{Always}
use Rattle.law_bearer.specs.AnyBearer.Acknowledged.{hears_on}
use Rattle.law_bearer.specs.AnyBearer.Calls.{Call, Submit, Take, Arrive, Expire, Tick, SetDiscard}
use Rattle.law_bearer.specs.AnyBearer.Calls.{after, after_all}
use Rattle.law_deliver.specs.AmFlow.Reordering.{Reordering, Starts, Expires, reordering_in}
use Rattle.law_deliver.specs.AmFlow.Reordering.{reordering_over}
use Rattle.law_deliver.specs.AmFlow.UnderWay.{IsUnderWay}
use Rattle.law_deliver.specs.AmFlow.Ups.{tells_in, tells_over}
use Rattle.law_account.specs.EndsTold.{AreEndsOf, BringsNone}
use Rattle.law_account.specs.FlowHistory.{with_hearing}
use Rattle.law_sound.specs.ReportLaws.{IsGatheredTrue}

-- ---- what t-Reordering does, behind a history

abbrev pub event_of : Reordering → FlowEvent
event_of Starts = ReorderStarted
event_of Expires = ReorderExpired

-- one behind the other
abbrev pub with_reordering : List Reordering → List FlowEvent → List FlowEvent
with_reordering [] es = es
with_reordering (x ∷ xs) es = with_reordering xs (event_of x ∷ es)

-- ---- calls of a receiver that bring no PDU

abbrev pub with_hearings : List ReceiverCall → Receiver → List FlowEvent → List FlowEvent
with_hearings [] r es = es
with_hearings (c ∷ cs) r es = with_hearings cs (state_after r c) (with_hearing r c es)

-- what their history says is what its timer does in them
abbrev pub ReorderingsAreEvents : Type 0
ReorderingsAreEvents = (cs : List ReceiverCall) (r : Receiver) (es : List FlowEvent)
    → AllByRecursion BringsNone cs
    → with_hearings cs r es ≡ with_reordering (reordering_over cs r) es

-- so both ends stay beside it
abbrev pub ReceiversGoOnOver : Type 0
ReceiversGoOnOver = (most : ℕ) (es : List FlowEvent) (tx : Sender) (rx : Receiver)
    (cs : List ReceiverCall) → AllByRecursion BringsNone cs → AreEndsOf most es tx rx
    → AreEndsOf most (with_reordering (reordering_over cs rx) es) tx (hears_on cs rx)

-- ---- a call of the bearer

-- no data PDU
abbrev pub IsNoData : List ℕ → Type 0
IsNoData octets = (pdu : AmdPdu) → am_at octets ≡ Ok (Payload pdu) → ⊥

-- one
abbrev pub ReadsAsData : List ℕ → Type 0
ReadsAsData octets = (pdu : AmdPdu) × (am_at octets ≡ Ok (Payload pdu))

-- none comes in it
abbrev pub BringsNoData : Call → Type 0
BringsNoData (Arrive octets) = IsNoData octets
BringsNoData (Submit sdu) = Unit {0}
BringsNoData (Take share held) = Unit {0}
BringsNoData (Expire clock) = Unit {0}
BringsNoData Tick = Unit {0}
BringsNoData (SetDiscard ttis) = Unit {0}

abbrev pub with_told : ℕ → State → Call → List FlowEvent → List FlowEvent
with_told l b c es = with_reordering (reordering_in (tells_in l (Am b) c)) es

-- the history goes on by what it tells
abbrev pub BearersHear : Type 0
BearersHear = (most l : ℕ) (es : List FlowEvent) (tx : Sender) (b d : State) (c : Call)
    → BringsNoData c → after (Am b) c ≡ Am d → AreEndsOf most es tx b.rx
    → AreEndsOf most (with_told l b c es) tx d.rx

-- ---- a data PDU comes that is under way in its flow

-- octets of its number
abbrev pub octets_of : Copy → AmdPdu → FlowEvent
octets_of c pdu =
    OctetsArrived c.number (so_of pdu.segment) (so_of pdu.segment + octets_in pdu.elements)

abbrev pub BearersHearData : Type 0
BearersHearData = Always (λ f. (most l : ℕ) (es : List FlowEvent) (b d : State) (k : ℕ) (c : Copy)
    (pdu : AmdPdu) → slice_get f.copies k ≡ Some c → am_at c.octets ≡ Ok (Payload pdu)
    → b.rx ≡ (receiver f).state → after (Am b) (Arrive c.octets) ≡ Am d
    → AreEndsOf most es (sender f).state b.rx
    → AreEndsOf most (with_told l b (Arrive c.octets) (octets_of c pdu ∷ es)) (sender f).state d.rx)

-- ---- a block comes, with the PDUs of the channel in it

-- none of them is a data PDU, or only the last is, which is under way; and what arrives with it
pub data Brings (f : Flow) (pdus : List (List ℕ)) (came : List FlowEvent) : Type 0 where
  NoData : AllByRecursion IsNoData pdus → came ≡ [] → Brings f pdus came
  OneData : (before : List (List ℕ)) (c : Copy) (k : ℕ) (pdu : AmdPdu)
      → AllByRecursion IsNoData before → pdus ≡ before ++ c.octets ∷ []
      → slice_get f.copies k ≡ Some c → am_at c.octets ≡ Ok (Payload pdu)
      → came ≡ octets_of c pdu ∷ [] → Brings f pdus came

abbrev pub arrivals : List (List ℕ) → List Call
arrivals pdus = map (λ octets. Arrive octets) pdus

-- first the octets arrive, and then the history goes on by what is told
abbrev pub BlocksAreHeard : Type 0
BlocksAreHeard = Always (λ f. (most l : ℕ) (es came : List FlowEvent) (b d : State)
    (pdus : List (List ℕ)) → Brings f pdus came → b.rx ≡ (receiver f).state
    → after_all (Am b) (arrivals pdus) ≡ Am d → AreEndsOf most es (sender f).state b.rx
    → AreEndsOf most
    (with_reordering (reordering_in (tells_over l (Am b) (arrivals pdus))) (came ++ es))
    (sender f).state d.rx)

-- ---- a block that is under way brings so

-- behind PDUs that are no data PDUs there is one more at most
pub record HasOneData (pdus : List (List ℕ)) : Type 0 where
  pub before : List (List ℕ)
  pub behind : List (List ℕ)
  pub are : pdus ≡ before ++ behind
  pub none : AllByRecursion IsNoData before
  pub one : length behind ≤ 1

pub record HasBrought (f : Flow) (pdus : List (List ℕ)) : Type 0 where
  pub came : List FlowEvent
  pub brings : Brings f pdus came

-- of a flow, and of the one back, of which its STATUS PDUs are
abbrev pub UnderWayBrings : Type 0
UnderWayBrings = (sending other_sending : AmTxConfig) (receiving other_receiving : AmRxConfig)
    (out back : List Step) (age : ℕ) (pdus : List (List ℕ))
    → AreGiven (am_rlc_outset sending other_receiving) out
    → AreGiven (am_rlc_outset other_sending receiving) back
    → AllByRecursion (IsUnderWay (goes out (am_rlc_outset sending other_receiving))
    (goes back (am_rlc_outset other_sending receiving)) age) pdus → HasOneData pdus
    → HasBrought (goes out (am_rlc_outset sending other_receiving)) pdus

-- ---- a STATUS is written

-- of any size, by ends beside their history
abbrev pub EndsReportTruly : Type 0
EndsReportTruly =
    (most : ℕ) (es : List FlowEvent) (tx : Sender) (rx : Receiver) (size next lcid : ℕ)
    (status : StatusPdu) → AreEndsOf most es tx rx → status.ack ≡ ack rx size % AM_MODULUS
    → status.nacks ≡ nacks rx size → IsGatheredTrue es rx size next lcid status

-- its octets are read as one that is gathered true
pub record IsWrittenTrue (es : List FlowEvent) (rx : Receiver) (size next lcid : ℕ)
    (octets : List ℕ) : Type 0 where
  pub status : StatusPdu
  pub reads : am_at octets ≡ Ok (Control status)
  pub gathered : IsGatheredTrue es rx size next lcid status

-- by a bearer that hears the flow, with 3 octets of its share for a subheader
abbrev pub BearersReportTruly : Type 0
BearersReportTruly = Always (λ f. (most share next lcid : ℕ) (es : List FlowEvent) (b : State)
    → b.rx ≡ (receiver f).state → AreEndsOf most es (sender f).state b.rx
    → AllByRecursion (IsWrittenTrue es b.rx (share - 3) next lcid) (status_pdus b.rx share))

-- behind it stands one data PDU at most
abbrev pub BearersWriteOneData : Type 0
BearersWriteOneData = Always (λ f. (share : ℕ) (held : Option ℕ) (b : State)
    → b.rx ≡ (receiver f).state → HasOneData (pdus (Am b) share held))
