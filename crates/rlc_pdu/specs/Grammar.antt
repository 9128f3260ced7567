-- Which octets are which data PDU. Reserved bits and padding have any value where a PDU is read.
use Rattle.std.specs.Prelude.{◌≡◌, ℕ, ◌+◌, ◌*◌, ◌/◌, ◌%◌, ◌<◌, ◌^◌, ◌==◌, Bool, List, [], ◌∷◌, ◌++◌}
use Rattle.std.specs.Prelude.{length, map, Option, Some, None, if◌then◌else◌}
use Rattle.std.specs.List.{concat}
use Rattle.l2_bits.specs.Bits.{digit}
use Rattle.rlc_pdu.specs.declared.pdu.Segment.{Segment}
use Rattle.rlc_pdu.specs.Status.{IsStatusPdu}
use Rattle.rlc_pdu.specs.Units.{follows, units_octets}
use Rattle.rlc_pdu.specs.Pdus.{UmdPdu, AmdPdu, AcknowledgedPdu, Payload, Status, AreLens, but_last}
use Rattle.rlc_pdu.specs.Pdus.{IsSegment}

-- the header of a UMD PDU: FI(2) E SN(5), or R R R FI(2) E SN(10) (TS 36.322 6.2.1.3)
abbrev pub umd_header : ℕ → ℕ → ℕ → ℕ → ℕ → List ℕ
umd_header bits reserved fi more sn =
    if bits == 5 then (fi * 64 + more * 32 + sn) ∷ []
    else (reserved * 32 + fi * 8 + more * 4 + sn / 256) ∷ (sn % 256) ∷ []

-- how many values its reserved bits have
abbrev pub umd_reserved : ℕ → ℕ
umd_reserved bits = if bits == 5 then 1 else 8

-- RF: it is a segment
abbrev pub has_segment : Option Segment → ℕ
has_segment None = 0
has_segment (Some s) = 1

-- LSF SO(15) (TS 36.322 6.2.1.5)
abbrev pub segment_octets : Option Segment → List ℕ
segment_octets None = []
segment_octets (Some s) = (digit s.last * 128 + s.so / 256) ∷ (s.so % 256) ∷ []

-- the header of an AMD PDU: D/C, which is 1, RF P FI(2) E SN(10), and that of a segment (TS 36.322
-- 6.2.1.4, 6.2.1.5)
abbrev pub amd_header : Bool → ℕ → Option Segment → ℕ → ℕ → List ℕ
amd_header poll fi segment more sn =
    (128 + has_segment segment * 64 + digit poll * 32 + fi * 8 + more * 4 + sn / 256) ∷ (sn % 256)
    ∷ segment_octets segment

-- the octets behind the header: the units of the lengths of all elements but the last, and the data
-- field
abbrev pub body_octets : ℕ → List ℕ → List ℕ → List ℕ
body_octets padding lens field = units_octets padding (but_last lens) ++ field

-- E in the header: units follow
abbrev pub has_units : List ℕ → ℕ
has_units lens = follows (but_last lens)

-- the octets of a UMD PDU by the lengths of its elements and its data field
abbrev pub umd_octets : ℕ → ℕ → ℕ → ℕ → ℕ → List ℕ → List ℕ → List ℕ
umd_octets bits reserved padding sn fi lens field =
    umd_header bits reserved fi (has_units lens) sn ++ body_octets padding lens field

-- the octets of an AMD PDU, likewise
abbrev pub amd_octets : ℕ → ℕ → Bool → ℕ → Option Segment → List ℕ → List ℕ → List ℕ
amd_octets padding sn poll fi segment lens field =
    amd_header poll fi segment (has_units lens) sn ++ body_octets padding lens field

-- octets are a UMD PDU whose number has so many bits
pub record IsUmdPdu (bits : ℕ) (pdu : UmdPdu) (octets : List ℕ) : Type 0 where
  pub reserved : ℕ
  pub padding : ℕ
  pub few : reserved < umd_reserved bits
  pub four_bits : padding < 2 ^ 4
  pub number : pdu.sn < 2 ^ bits
  pub framing : pdu.fi < 2 ^ 2
  pub lens : AreLens (map length pdu.elements)
  pub spelled : octets ≡ umd_octets bits reserved padding pdu.sn pdu.fi (map length pdu.elements)
      (concat pdu.elements)

-- octets are an AMD PDU, or a segment of one
pub record IsAmdPdu (pdu : AmdPdu) (octets : List ℕ) : Type 0 where
  pub padding : ℕ
  pub four_bits : padding < 2 ^ 4
  pub number : pdu.sn < 2 ^ 10
  pub framing : pdu.fi < 2 ^ 2
  pub segment : IsSegment pdu.segment
  pub lens : AreLens (map length pdu.elements)
  pub spelled : octets ≡ amd_octets padding pdu.sn pdu.poll pdu.fi pdu.segment
      (map length pdu.elements) (concat pdu.elements)

-- octets are a PDU of an acknowledged bearer
abbrev pub IsAmPdu : AcknowledgedPdu → List ℕ → Type 0
IsAmPdu (Payload pdu) octets = IsAmdPdu pdu octets
IsAmPdu (Status pdu) octets = IsStatusPdu pdu octets
