-- A STATUS that a receiver writes is gathered from a journal as one that is true of its flow (TS
-- 36.322 5.2.3, 6.2.1.6, 7.1).
use Rattle.std.specs.Prelude.{◌≡◌, ℕ, ◌%◌, List, Some, Ok}
use Rattle.l2_types.specs.declared.event.How.TheVariants as hows
use Rattle.rlc_pdu.specs.declared.constants.TheConstants.{AM_MODULUS}
use Rattle.rlc_pdu.specs.Pdus.{StatusPdu, Status}
use Rattle.rlc_am_rx.specs.State.{State}
use Rattle.rlc_am_rx.specs.Status.{ack, nacks}
use Rattle.journal_account.specs.FlowEvents.{FlowEvent, IsHistory}
use Rattle.journal_account.specs.TrueStatus.{IsTrueStatus}
use Rattle.journal_flows.specs.declared.parcels.Parcel.TheVariants.{Report}
use Rattle.journal_flows.specs.NumberedPdus.{front_in, parcel_by}
use Rattle.law_account.specs.Reporting.{reported}
use Rattle.law_account.specs.FlowReceiving.{IsReceiverOf}

-- by the history so far: with the numbers that it was written for, and true with them
pub record IsGatheredTrue (es : List FlowEvent) (s : State) (size next lcid : ℕ)
    (status : StatusPdu) : Type 0 where
  pub gathered : parcel_by next (front_in es) lcid hows.Status (Ok (Status status))
      ≡ Some (Report lcid (ack s size) (reported s size))
  pub is_true : IsTrueStatus es (ack s size) (reported s size)

-- of any size, with 10 bits of its ACK and of the numbers of its entries
abbrev pub ReportsAreGathered : Type 0
ReportsAreGathered =
    (most : ℕ) (es : List FlowEvent) (s : State) (size next lcid : ℕ) (status : StatusPdu)
    → IsHistory es → IsReceiverOf most es s → status.ack ≡ ack s size % AM_MODULUS
    → status.nacks ≡ nacks s size → IsGatheredTrue es s size next lcid status
