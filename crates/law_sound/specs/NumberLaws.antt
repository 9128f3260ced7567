-- The numbers that an acknowledged bearer's PDUs get as they are written are those that are
-- gathered of them from a journal (docs/formats/JOURNAL.md; TS 36.322 5.1.3.1, 5.2.1, 5.2.3, 7.1).
use Rattle.std.specs.Prelude.{◌≡◌, ◌<◌, ◌≤◌, ℕ, ◌+◌, ◌%◌, Bool, true, false, List, map, Option}
use Rattle.std.specs.Prelude.{Some, None, Result, Ok, Err}
use Rattle.std.specs.List.{AllByRecursion}
use Rattle.l2_types.specs.declared.config.AmTxConfig.{AmTxConfig}
use Rattle.l2_types.specs.declared.AmRxConfig.{AmRxConfig}
use Rattle.l2_types.specs.declared.event.How.{How}
use Rattle.l2_types.specs.declared.event.How.TheVariants as hows
use Rattle.rlc_pdu.specs.declared.constants.TheConstants.{AM_MODULUS, AM_WINDOW_SIZE}
use Rattle.rlc_pdu.specs.declared.fault.RlcRefusal.{RlcRefusal}
use Rattle.rlc_pdu.specs.declared.outcome.Taken.TheVariants as taken
use Rattle.rlc_pdu.specs.Pdus.{AcknowledgedPdu, AmdPdu, StatusPdu, Payload, Status as Control}
use Rattle.rlc_pdu.specs.Reading.{am_at}
use Rattle.rlc_am_rx_window.specs.Piece.{octets_in, so_of}
use Rattle.rlc_am_rx.specs.State.{State as Receiver}
use Rattle.rlc_am_tx_window.specs.Window.{next}
use Rattle.rlc_am_tx.specs.Machine.{answer}
use Rattle.bearer.specs.Acknowledged.State.{State}
use Rattle.bearer.specs.Acknowledged.Taking.{data_size}
use Rattle.bearer.specs.declared.flow.Flow.TheVariants.{Am}
use Rattle.law_words.specs.Passing.{last_with}
use Rattle.promises.specs.SentNumbers.{IsNumber}
use Rattle.journal_account.specs.FlowEvents.{FlowEvent, next_of}
use Rattle.journal_flows.specs.declared.parcels.Parcel.{Parcel}
use Rattle.journal_flows.specs.declared.parcels.Parcel.TheVariants.{Octets, Report}
use Rattle.journal_flows.specs.NumberedPdus.{front_in, parcel_by}
use Rattle.journal_flows.specs.Possible.{most_octets}
use Rattle.law_rlc.specs.AmPair.Arrives.{Always}
use Rattle.law_rlc.specs.AmPair.Flow.{Step, sender, receiver, goes, am_rlc_outset}
use Rattle.law_rlc.specs.AmPair.Given.{AreGiven}
use Rattle.law_bearer.specs.AnyBearer.Acknowledged.{offers_in}
use Rattle.law_deliver.specs.AmFlow.Carrying.{CarriedPdu, Numbered, Reported, pdu_octets}
use Rattle.law_deliver.specs.AmFlow.Carrying.{written_in}
use Rattle.law_deliver.specs.AmFlow.Pair.{HasOctet}
use Rattle.law_account.specs.EndsTold.{AreEndsOf}
use Rattle.law_account.specs.LateStatus.{entries_of}
use Rattle.law_sound.specs.GatherLaws.{IsData}
use Rattle.law_sound.specs.HearingLaws.{HasOneData}

-- ---- of a sender

-- a new data PDU gets the number of VT(S), and is whole; one that is sent again has the last number
-- below it that has its SN
abbrev pub IsNumberOf : Bool → ℕ → ℕ → AmdPdu → Type 0
IsNumberOf true next n pdu = (n ≡ next) × (so_of pdu.segment ≡ 0)
IsNumberOf false next n pdu =
    (n < next) × (next ≤ n + AM_WINDOW_SIZE) × (n ≡ last_with pdu.sn next)

pub record IsNumbered (next : ℕ) (first : Bool) (n : ℕ) (octets : List ℕ) : Type 0 where
  pub pdu : AmdPdu
  pub read : am_at octets ≡ Ok (Payload pdu)
  pub sn_is : pdu.sn ≡ n % AM_MODULUS
  pub some : 0 < octets_in pdu.elements
  pub most : so_of pdu.segment + octets_in pdu.elements ≤ most_octets
  pub number : IsNumberOf first next n pdu

-- at any moment of a flow
abbrev pub NumbersAreGiven : Type 0
NumbersAreGiven = Always (λ f. (size : ℕ) (held : Option ℕ) (more first polled : Bool) (n : ℕ)
    (octets : List ℕ) → size ≤ 32767
    → answer (sender f).state size held more ≡ taken.Piece n first polled octets
    → IsNumbered (next (sender f).state.window) first n octets)

-- ---- the parcel of a PDU by its own numbers

abbrev pub data_parcel : ℕ → ℕ → Result AcknowledgedPdu RlcRefusal → Option Parcel
data_parcel l n (Ok (Payload pdu)) =
    Some (Octets l n (so_of pdu.segment) (so_of pdu.segment + octets_in pdu.elements))
data_parcel l n (Ok (Control pdu)) = None
data_parcel l n (Err refused) = None

abbrev pub parcel_of : ℕ → CarriedPdu → Option Parcel
parcel_of l (Numbered c) = data_parcel l c.number (am_at c.octets)
parcel_of l (Reported r) = Some (Report l r.ack (entries_of r))

-- ---- is the one that is gathered of it, where its record names it by what it is and by its number

abbrev pub IsNamedAs : How → ℕ → CarriedPdu → Type 0
IsNamedAs how next (Numbered c) = IsData how
    × ((pdu : AmdPdu) → am_at c.octets ≡ Ok (Payload pdu) → IsNumber how next pdu.sn)
IsNamedAs how next (Reported r) = how ≡ hows.Status

pub record IsGatheredAs (next front l : ℕ) (how : How) (p : CarriedPdu) : Type 0 where
  pub parcel : Parcel
  pub own : parcel_of l p ≡ Some parcel
  pub gathered : parcel_by next front l how (am_at (pdu_octets p)) ≡ Some parcel

abbrev pub IsGathered : ℕ → ℕ → ℕ → CarriedPdu → Type 0
IsGathered next front l p = (how : How) → IsNamedAs how next p → IsGatheredAs next front l how p

-- a data PDU has an octet, and SOs have 15 bits
abbrev pub HasRoom : CarriedPdu → Type 0
HasRoom (Numbered c) = (pdu : AmdPdu) → am_at c.octets ≡ Ok (Payload pdu)
    → (0 < octets_in pdu.elements) × (so_of pdu.segment + octets_in pdu.elements ≤ most_octets)
HasRoom (Reported r) = Unit {0}

abbrev pub IsReadAs : CarriedPdu → Type 0
IsReadAs (Numbered c) = (pdu : AmdPdu) × (am_at c.octets ≡ Ok (Payload pdu))
IsReadAs (Reported r) = (status : StatusPdu) × (am_at r.octets ≡ Ok (Control status))

-- behind a STATUS stands one data PDU at most
pub record AreGathered (next front l : ℕ) (pdus : List CarriedPdu) : Type 0 where
  pub each : AllByRecursion (IsGathered next front l) pdus
  pub room : AllByRecursion HasRoom pdus
  pub read : AllByRecursion IsReadAs pdus
  pub one : HasOneData (map pdu_octets pdus)

-- of a bearer at an end of two flows, beside the history of each
abbrev pub NewPdusAreGathered : Type 0
NewPdusAreGathered = (sending other_sending : AmTxConfig) (receiving other_receiving : AmRxConfig)
    (out back : List Step) → AreGiven (am_rlc_outset sending other_receiving) out
    → AreGiven (am_rlc_outset other_sending receiving) back
    → (most other_most l share : ℕ) (held : Option ℕ) (es xs : List FlowEvent) (b : State)
    (rx : Receiver) → (sender (goes out (am_rlc_outset sending other_receiving))).state ≡ b.tx
    → (receiver (goes back (am_rlc_outset other_sending receiving))).state ≡ b.rx
    → AreEndsOf most es b.tx rx
    → AreEndsOf other_most xs (sender (goes back (am_rlc_outset other_sending receiving))).state
    b.rx → data_size b share ≤ 32767 → AllByRecursion HasOctet (offers_in b share held)
    → AreGathered (next_of es) (front_in xs) l (written_in (Am b) share held)
