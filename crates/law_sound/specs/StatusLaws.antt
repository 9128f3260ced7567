-- A STATUS is gathered from a journal with the numbers that its receiver wrote it for (TS 36.322
-- 6.2.1.6, 7.1).
use Rattle.std.specs.Prelude.{◌≡◌, ℕ, ◌+◌, ◌%◌, ◌≤◌, ◌<◌, true, List, map, Some, Ok}
use Rattle.l2_types.specs.declared.event.How.TheVariants as hows
use Rattle.rlc_pdu.specs.declared.constants.TheConstants.{AM_MODULUS}
use Rattle.rlc_pdu.specs.Pdus.{StatusPdu, Status}
use Rattle.journal_account.specs.declared.entry.StatusEntry.{StatusEntry}
use Rattle.journal_account.specs.Entries.{names_number}
use Rattle.journal_flows.specs.declared.parcels.Parcel.TheVariants.{Report}
use Rattle.journal_flows.specs.NumberedPdus.{parcel_by}
use Rattle.law_account.specs.TrueStatus.{nack_with}

-- from VR(R) on, so that no other such number has its SN
pub record IsFrom (front n : ℕ) : Type 0 where
  pub from : front ≤ n
  pub below : n < front + AM_MODULUS

-- where it has 10 bits of an ACK and of entries from there on, it is told with these
pub record HasNumbersFrom (front : ℕ) (status : StatusPdu) (ack : ℕ) (entries : List StatusEntry)
    : Type 0 where
  pub ack_sn : status.ack ≡ ack % AM_MODULUS
  pub nack_sns : status.nacks ≡ map nack_with entries
  pub ack_from : IsFrom front ack
  pub from : (n : ℕ) → names_number entries n ≡ true → IsFrom front n

abbrev pub StatusesAreGathered : Type 0
StatusesAreGathered =
    (next front lcid : ℕ) (status : StatusPdu) (ack : ℕ) (entries : List StatusEntry)
    → HasNumbersFrom front status ack entries
    → parcel_by next front lcid hows.Status (Ok (Status status)) ≡ Some (Report lcid ack entries)
