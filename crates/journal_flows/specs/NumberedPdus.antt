-- What a PDU of an acknowledged bearer is, by true numbers, as it is written (TS 36.322 6.2.1.4 to
-- 6.2.1.6, 7.1), and what a PDU tells of its flows as it is written and as it comes.
use Rattle.std.specs.Prelude.{ℕ, ◌+◌, ◌%◌, ◌==◌, Bool, false, List, [], ◌∷◌, map, Option, Some}
use Rattle.std.specs.Prelude.{None, Result, Ok}
use Rattle.std.specs.List.{list_any}
use Rattle.l2_num.specs.Least.{past}
use Rattle.l2_num.specs.Numbers.{ahead}
use Rattle.l2_types.specs.declared.event.How.{How}
use Rattle.l2_types.specs.declared.event.How.TheVariants as hows
use Rattle.l2_types.specs.declared.side.Side.{Side}
use Rattle.rlc_pdu.specs.declared.constants.TheConstants.{AM_MODULUS}
use Rattle.rlc_pdu.specs.declared.fault.RlcRefusal.{RlcRefusal}
use Rattle.rlc_pdu.specs.declared.pdu.Nack.{Nack}
use Rattle.rlc_pdu.specs.Pdus.{AcknowledgedPdu, Payload, Status}
use Rattle.rlc_am_rx_window.specs.Piece.{octets_in, so_of}
use Rattle.bearer_types.specs.Sides.{other}
use Rattle.law_words.specs.Passing.{last_with}
use Rattle.journal_account.specs.declared.entry.StatusEntry.{StatusEntry}
use Rattle.journal_account.specs.FlowEvents.{FlowEvent, NumberWritten, OctetsResent, OctetsArrived}
use Rattle.journal_account.specs.FlowEvents.{StatusHeard, next_of}
use Rattle.journal_account.specs.Arrived.{is_complete_in}
use Rattle.journal_lives.specs.LifeEvents.{LifeEvent, InLife}
use Rattle.journal_um.specs.UmEvents.{PduArrived}
use Rattle.journal_flows.specs.declared.parcels.Parcel.{Parcel}
use Rattle.journal_flows.specs.declared.parcels.Parcel.TheVariants.{Octets, Pieces, Report}
use Rattle.journal_flows.specs.UmPdus.{UmFlowEvent, AtSender, AtReceiver}

-- an event of a flow, by the kind of its bearer
pub data AnyEvent : Type 0 where
  Acked : LifeEvent → AnyEvent
  Unacked : UmFlowEvent → AnyEvent

-- an event of the flow of a side that sends, on a channel
pub record Told : Type 0 where
  pub side : Side
  pub lcid : ℕ
  pub event : AnyEvent

abbrev pub told : Side → ℕ → LifeEvent → List Told
told side lcid event = record { side = side; lcid = lcid; event = Acked event } ∷ []

abbrev pub told_in : Side → ℕ → FlowEvent → List Told
told_in side lcid event = told side lcid (InLife event)

abbrev pub um_told : Side → ℕ → UmFlowEvent → List Told
um_told side lcid event = record { side = side; lcid = lcid; event = Unacked event } ∷ []

-- ---- numbers

-- VR(R), the least that isn't complete: none at or above VT(S) is
abbrev pub front_in : List FlowEvent → ℕ
front_in es = past (is_complete_in es) (next_of es) 0

-- the first number from one on that has an SN
abbrev pub with_sn_from : ℕ → ℕ → ℕ
with_sn_from low sn = low + ahead sn (low % AM_MODULUS) AM_MODULUS

abbrev pub entry_from : ℕ → Nack → StatusEntry
entry_from low nack = record { number = with_sn_from low nack.sn; part = nack.part }

-- ---- a PDU as it is named

-- by VT(S) of its own flow, and VR(R) of the flow that goes the other way: a new PDU has the next
-- number, one that is sent again the last number with its SN, and a STATUS speaks of numbers from
-- VR(R) on
abbrev pub parcel_by : ℕ → ℕ → ℕ → How → Result AcknowledgedPdu RlcRefusal → Option Parcel
parcel_by next front lcid hows.New (Ok (Payload pdu)) =
    Some (Octets lcid next 0 (octets_in pdu.elements))
parcel_by next front lcid hows.Re (Ok (Payload pdu)) =
    Some (Octets lcid (last_with pdu.sn next) (so_of pdu.segment)
    (so_of pdu.segment + octets_in pdu.elements))
parcel_by next front lcid hows.Status (Ok (Status pdu)) =
    Some (Report lcid (with_sn_from front pdu.ack) (map (entry_from front) pdu.nacks))
parcel_by next front lcid how read = None

-- ---- as a side writes it, and as it comes from a side

abbrev pub written_as : Side → How → Parcel → List Told
written_as from hows.New (Octets lcid n start end) = told_in from lcid (NumberWritten end)
written_as from hows.Re (Octets lcid n start end) = told_in from lcid (OctetsResent n start end)
written_as from hows.New (Pieces lcid n size pieces) =
    um_told from lcid (AtSender (NumberWritten size))
written_as from how parcel = []

abbrev pub come_as : Side → Parcel → List Told
come_as from (Octets lcid n start end) = told_in from lcid (OctetsArrived n start end)
come_as from (Pieces lcid n size pieces) = um_told from lcid (AtReceiver (PduArrived n pieces))
come_as from (Report lcid ack entries) = told_in (other from) lcid (StatusHeard ack entries)

-- ---- a STATUS among some PDUs

abbrev pub is_status_on : ℕ → Parcel → Bool
is_status_on lcid (Report own ack entries) = own == lcid
is_status_on lcid parcel = false

abbrev pub carries_status : ℕ → List Parcel → Bool
carries_status lcid parcels = list_any (is_status_on lcid) parcels
