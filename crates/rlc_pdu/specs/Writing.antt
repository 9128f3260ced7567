-- The canonical writing of RLC PDUs (TS 36.322 6.2.1): reserved bits, padding and what fills a
-- STATUS are 0.
use Rattle.std.specs.Prelude.{ℕ, ◌+◌, ◌-◌, ◌*◌, ◌/◌, Bool, List, ◌++◌, length, map, Option}
use Rattle.std.specs.List.{concat}
use Rattle.l2_bits.specs.Bits.{bits, filling}
use Rattle.rlc_pdu.specs.declared.pdu.Nack.{Nack}
use Rattle.rlc_pdu.specs.declared.pdu.Segment.{Segment}
use Rattle.rlc_pdu.specs.Pdus.{UmdPdu, AmdPdu}
use Rattle.rlc_pdu.specs.Grammar.{umd_octets, amd_octets}
use Rattle.rlc_pdu.specs.Status.{status_bits}

-- a UMD PDU by the lengths of its elements and its data field
abbrev pub umd_written : ℕ → ℕ → ℕ → List ℕ → List ℕ → List ℕ
umd_written bits sn fi lens field = umd_octets bits 0 0 sn fi lens field

-- an AMD PDU, or a segment of one, likewise
abbrev pub amd_written : ℕ → Bool → ℕ → Option Segment → List ℕ → List ℕ → List ℕ
amd_written sn poll fi segment lens field = amd_octets 0 sn poll fi segment lens field

-- a UMD PDU by its elements
abbrev pub umd_canonical : ℕ → UmdPdu → List ℕ
umd_canonical bits pdu =
    umd_written bits pdu.sn pdu.fi (map length pdu.elements) (concat pdu.elements)

-- an AMD PDU by its elements
abbrev pub amd_canonical : AmdPdu → List ℕ
amd_canonical pdu =
    amd_written pdu.sn pdu.poll pdu.fi pdu.segment (map length pdu.elements) (concat pdu.elements)

-- the bits of a STATUS
abbrev pub status_written : ℕ → List Nack → List Bool
status_written ack nacks =
    status_bits ack nacks ++ bits (filling (length (status_bits ack nacks))) 0

-- the octets of a header with a fixed part of so many and of n elements: 12 bits for each element
-- but the last
abbrev pub header_len : ℕ → ℕ → ℕ
header_len fixed n = fixed + (12 * (n - 1) + 7) / 8
