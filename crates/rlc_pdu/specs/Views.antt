-- What readers and headers are, apart from where their octets lie (TS 36.322 6.2.1).
use Rattle.std.specs.Prelude.{ℕ, ◌<◌, ◌^◌, ◌+◌, ◌≡◌, List, length, drop}
use Rattle.rlc_pdu.specs.declared.elements.Elements.{Elements}
use Rattle.rlc_pdu.specs.declared.header.Header.{Header}
use Rattle.rlc_pdu.specs.declared.pdu.Umd.{Umd}
use Rattle.rlc_pdu.specs.declared.pdu.Amd.{Amd}
use Rattle.rlc_pdu.specs.declared.pdu.StatusRead.{StatusRead}
use Rattle.rlc_pdu.specs.declared.pdu.AmPdu.{AmPdu}
use Rattle.rlc_pdu.specs.declared.pdu.AmPdu.TheVariants as am
use Rattle.rlc_pdu.specs.declared.entries.NackReader.{NackReader}
use Rattle.rlc_pdu.specs.Units.{elements_in}
use Rattle.rlc_pdu.specs.Pdus.{UmdPdu, AmdPdu, StatusPdu, AcknowledgedPdu, Payload, Status}
use Rattle.rlc_pdu.specs.Pdus.{IsSegment}
use Rattle.rlc_pdu.specs.declared.pdu.Nack.{Nack}
use Rattle.rlc_pdu.specs.Entries.{entries, nacks_in}
use Rattle.l2_bits.specs.Bits.{bits_of}
use Rattle.rlc_pdu.specs.Refusals.{Front}

-- the elements that a reader has left
abbrev pub elements_of : Elements → List (List ℕ)
elements_of e = elements_in e.odd e.more e.units.now e.field.now

-- the fields that a reader gives
abbrev pub umd_of : Umd → UmdPdu
umd_of u = record { sn = u.sn; fi = u.fi; elements = elements_of u.elements }

abbrev pub amd_of : Amd → AmdPdu
amd_of a = record {
  sn = a.sn;
  poll = a.poll;
  fi = a.fi;
  segment = a.segment;
  elements = elements_of a.elements;
}

-- the entries that a reader has left
abbrev pub nacks_of : NackReader → List Nack
nacks_of r = nacks_in (entries 0 r.more (drop r.at (bits_of r.octets.now)))

abbrev pub status_of : StatusRead → StatusPdu
status_of s = record { ack = s.ack; nacks = nacks_of s.nacks }

abbrev pub am_of : AmPdu → AcknowledgedPdu
am_of (am.Payload amd) = Payload (amd_of amd)
am_of (am.Status status) = Status (status_of status)

abbrev pub front_of : Header → Front
front_of h = record {
  sn = h.sn;
  poll = h.poll;
  fi = h.fi;
  segment = h.segment;
  more = h.more;
  size = h.size;
  rest = h.units.now;
}

-- the bounds of a header's fields, in a PDU of so many octets
pub record IsHeader (bits total : ℕ) (h : Header) : Type 0 where
  pub number : h.sn < 2 ^ bits
  pub framing : h.fi < 2 ^ 2
  pub segment : IsSegment h.segment
  pub whole : h.size + length h.units.now ≡ total

-- the bounds of the fields that `read_am` gives
abbrev pub HasRanges : AmPdu → Type 0
HasRanges (am.Payload amd) = (amd.sn < 2 ^ 10) × (amd.fi < 4) × IsSegment amd.segment
HasRanges (am.Status status) = status.ack < 2 ^ 10
