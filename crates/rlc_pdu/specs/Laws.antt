-- What was written is read again, and sizes, of the definitions alone (TS 36.322 6.2.1).
use Rattle.std.specs.Prelude.{◌≡◌, ℕ, ◌+◌, ◌*◌, ◌/◌, ◌<◌, ◌^◌, ◌==◌, List, [], ◌∷◌, length, map}
use Rattle.std.specs.Prelude.{All, Bool, Option, Ok, if◌then◌else◌, slice_index}
use Rattle.std.specs.List.{sum, concat}
use Rattle.l2_bits.specs.Bits.{bits_of}
use Rattle.rlc_pdu.specs.declared.pdu.Nack.{Nack}
use Rattle.rlc_pdu.specs.declared.pdu.Segment.{Segment}
use Rattle.rlc_pdu.specs.Units.{cut}
use Rattle.rlc_pdu.specs.Pdus.{UmdPdu, AmdPdu, StatusPdu, Payload, Status, IsUmBits, AreLens}
use Rattle.rlc_pdu.specs.Pdus.{but_last, IsSegment, IsNack}
use Rattle.rlc_pdu.specs.Grammar.{IsUmdPdu, IsAmdPdu, has_segment}
use Rattle.rlc_pdu.specs.Status.{IsStatusPdu, status_size, has_part}
use Rattle.rlc_pdu.specs.Reading.{umd_at, am_at}
use Rattle.rlc_pdu.specs.Writing.{umd_written, amd_written, umd_canonical, amd_canonical}
use Rattle.rlc_pdu.specs.Writing.{status_written, header_len}

-- the fields of a UMD PDU are in range
pub record IsUmdInRange (bits : ℕ) (pdu : UmdPdu) : Type 0 where
  pub number : pdu.sn < 2 ^ bits
  pub framing : pdu.fi < 2 ^ 2
  pub lens : AreLens (map length pdu.elements)

-- the octets that a UMD PDU is written as are that PDU and no other, and it is read from them
pub record IsUmdAgain (bits : ℕ) (pdu : UmdPdu) : Type 0 where
  pub accepted : IsUmdPdu bits pdu (umd_canonical bits pdu)
  pub only : (other : UmdPdu) → IsUmdPdu bits other (umd_canonical bits pdu) → other ≡ pdu
  pub read : umd_at bits (umd_canonical bits pdu) ≡ Ok pdu

abbrev pub UmdAgain : Type 0
UmdAgain = (bits : ℕ) (pdu : UmdPdu) → IsUmBits bits → IsUmdInRange bits pdu → IsUmdAgain bits pdu

-- the fields of an AMD PDU are in range
pub record IsAmdInRange (pdu : AmdPdu) : Type 0 where
  pub number : pdu.sn < 2 ^ 10
  pub framing : pdu.fi < 2 ^ 2
  pub segment : IsSegment pdu.segment
  pub lens : AreLens (map length pdu.elements)

-- the octets that an AMD PDU is written as are that PDU and no other, and it is read from them
pub record IsAmdAgain (pdu : AmdPdu) : Type 0 where
  pub accepted : IsAmdPdu pdu (amd_canonical pdu)
  pub only : (other : AmdPdu) → IsAmdPdu other (amd_canonical pdu) → other ≡ pdu
  pub read : am_at (amd_canonical pdu) ≡ Ok (Payload pdu)

abbrev pub AmdAgain : Type 0
AmdAgain = (pdu : AmdPdu) → IsAmdInRange pdu → IsAmdAgain pdu

-- octets with the bits that a STATUS is written as are that STATUS and no other, and it is read
-- from them
pub record IsStatusAgain (pdu : StatusPdu) (octets : List ℕ) : Type 0 where
  pub accepted : IsStatusPdu pdu octets
  pub only : (other : StatusPdu) → IsStatusPdu other octets → other ≡ pdu
  pub read : am_at octets ≡ Ok (Status pdu)

abbrev pub StatusAgain : Type 0
StatusAgain = (pdu : StatusPdu) (octets : List ℕ) → ((i : ℕ) → slice_index octets i < 256)
    → pdu.ack < 2 ^ 10 → All IsNack pdu.nacks
    → bits_of octets ≡ status_written pdu.ack pdu.nacks → IsStatusAgain pdu octets

-- lengths that add up to a field are those of the elements that they cut it into
pub record AreCutAgain (lens field : List ℕ) : Type 0 where
  pub lens_are : map length (cut (but_last lens) field) ≡ lens
  pub field_is : concat (cut (but_last lens) field) ≡ field

abbrev pub CutAgain : Type 0
CutAgain = (lens field : List ℕ) → AreLens lens → sum lens ≡ length field → AreCutAgain lens field

-- a data PDU has the octets of its header by the closed form and those of its field
pub record HasSizes (lens field : List ℕ) : Type 0 where
  pub umd : (bits sn fi : ℕ) → length (umd_written bits sn fi lens field)
      ≡ header_len (if bits == 5 then 1 else 2) (length lens) + length field
  pub amd : (sn : ℕ) (poll : Bool) (fi : ℕ) (segment : Option Segment)
      → length (amd_written sn poll fi segment lens field)
      ≡ header_len (2 + 2 * has_segment segment) (length lens) + length field

abbrev pub DataSizes : Type 0
DataSizes = (lens field : List ℕ) → AreLens lens → HasSizes lens field

-- how many entries have a range
abbrev pub ranges : List Nack → ℕ
ranges [] = 0
ranges (n ∷ ns) = has_part n.part + ranges ns

-- an entry takes 12 bits, and 30 more with a range
abbrev pub StatusSizes : Type 0
StatusSizes = (nacks : List Nack)
    → status_size nacks ≡ (15 + 12 * length nacks + 30 * ranges nacks + 7) / 8
