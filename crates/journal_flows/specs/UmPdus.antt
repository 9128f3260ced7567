-- What the records of a journal tell of an unacknowledged flow, at its sender and at its receiver,
-- and what a UMD PDU is by true numbers (docs/laws/ACCOUNT.md; TS 36.322 5.1.2, 6.2.1.3, 6.2.2.6).
use Rattle.std.specs.Prelude.{ℕ, ◌+◌, ◌-◌, Bool, true, ◌||◌, nat_le, nat_lt, if◌then◌else◌, List}
use Rattle.std.specs.Prelude.{[], ◌∷◌, length, Option, Some, None, Result, Ok}
use Rattle.l2_types.specs.declared.event.How.{How}
use Rattle.l2_types.specs.declared.event.How.TheVariants as hows
use Rattle.rlc_pdu.specs.declared.fault.RlcRefusal.{RlcRefusal}
use Rattle.rlc_pdu.specs.Pdus.{UmdPdu}
use Rattle.rlc_am_rx_window.specs.Piece.{octets_in, begins_in, ends_in}
use Rattle.journal_account.specs.FlowEvents.{FlowEvent, field_sizes}
use Rattle.journal_account.specs.Stream.{end_of_all, sdu_sizes}
use Rattle.journal_um.specs.declared.pieces.Piece.{Piece}
use Rattle.journal_um.specs.UmEvents.{UmEvent, UmLifeEvent}
use Rattle.journal_um.specs.UmEvents as come
use Rattle.journal_flows.specs.declared.parcels.Parcel.{Parcel}
use Rattle.journal_flows.specs.declared.parcels.Parcel.TheVariants.{Pieces}

-- ---- events

pub data UmFlowEvent : Type 0 where
  -- RLC takes an SDU, or writes the next number with so many octets in its data field (5.1.2.1.1)
  AtSender : FlowEvent → UmFlowEvent
  -- a PDU comes, or t-Reordering starts or expires (5.1.2.2)
  AtReceiver : UmEvent → UmFlowEvent
  -- the life ends at both ends (5.4)
  LifeEnded : UmFlowEvent

-- A history lists the events of all lives so far, the latest first.

-- what the sender did in the life that runs
abbrev pub sent_in : List UmFlowEvent → List FlowEvent
sent_in [] = []
sent_in (AtSender e ∷ es) = e ∷ sent_in es
sent_in (AtReceiver e ∷ es) = sent_in es
sent_in (LifeEnded ∷ es) = []

-- what came to the receiver in all lives
abbrev pub come_in : List UmFlowEvent → List UmLifeEvent
come_in [] = []
come_in (AtSender e ∷ es) = come_in es
come_in (AtReceiver e ∷ es) = come.InLife e ∷ come_in es
come_in (LifeEnded ∷ es) = come.LifeEnded ∷ come_in es

-- ---- the place of an SDU in the life

-- of SDUs of these sizes, one behind the other, so many end at a place or before it
abbrev pub ended_by : ℕ → List ℕ → ℕ
ended_by place [] = 0
ended_by place (size ∷ sizes) =
    if nat_le size place then ended_by (place - size) sizes + 1 else 0

-- the place of the SDU of the octets that are written next
abbrev pub place_next : List FlowEvent → ℕ
place_next es = ended_by (end_of_all (field_sizes es)) (sdu_sizes es)

-- ---- a PDU as it is named

-- The pieces of a data field, the first of which is of the SDU with this place, with whether the
-- first begins an SDU and the last ends one: each behind the first begins one, and each before the
-- last ends one.
abbrev pub pieces_from : ℕ → Bool → Bool → List (List ℕ) → List Piece
pieces_from place begins ends [] = []
pieces_from place begins ends (octets ∷ rest) = record {
  octets = octets;
  begins = begins;
  ends = ends || nat_lt 0 (length rest);
  place = place;
} ∷ pieces_from (place + 1) true ends rest

-- a new PDU has the number that its flow writes next, and the place of what is written next
abbrev pub um_parcel_by : ℕ → ℕ → ℕ → How → Result UmdPdu RlcRefusal → Option Parcel
um_parcel_by next place lcid hows.New (Ok pdu) = Some (Pieces lcid next (octets_in pdu.elements)
    (pieces_from place (begins_in pdu.fi) (ends_in pdu.fi) pdu.elements))
um_parcel_by next place lcid how read = None
