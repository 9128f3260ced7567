-- PDUs of SDUs: what is ciphered in them, and how long they are.
use Rattle.std.proofs.Common.{◌≡◌, ◌≤◌, ℕ, ◌+◌, ◌-◌, List, ◌++◌, length, take, drop, length-append, arith}
use Rattle.std.proofs.Math.Seq.{take-append_seam, drop-append_seam}
use Rattle.pdcp_pdu.specs.Grammar.{data_header, srb_header}
use Rattle.pdcp_tx.specs.State.{IsShort}

pub srb_short : (sn : ℕ) (text : List ℕ) → length text ≤ 8192 → IsShort (srb_header 0 sn ++ text)
srb_short sn text few = (omega arith, omega (arith, few))

-- a data PDU: what stands before the SDU is the header, and is short
header_few : (bits sn : ℕ) → length (data_header bits 0 sn) ≤ 2
header_few bits sn = grind arith

pub header_length : (bits sn : ℕ) (sdu : List ℕ)
    → length (data_header bits 0 sn ++ sdu) - length sdu ≡ length (data_header bits 0 sn)
header_length bits sn sdu = omega (arith, length-append (data_header bits 0 sn) sdu)

pub header_take : (bits sn : ℕ) (sdu : List ℕ)
    → take (length (data_header bits 0 sn ++ sdu) - length sdu) (data_header bits 0 sn ++ sdu) ≡ data_header bits 0 sn
header_take bits sn sdu = rw (header_length bits sn sdu) (take-append_seam (data_header bits 0 sn) sdu)

pub header_drop : (bits sn : ℕ) (sdu : List ℕ)
    → drop (length (data_header bits 0 sn ++ sdu) - length sdu) (data_header bits 0 sn ++ sdu) ≡ sdu
header_drop bits sn sdu = rw (header_length bits sn sdu) (drop-append_seam (data_header bits 0 sn) sdu)

pub data_short : (bits sn : ℕ) (sdu pdu : List ℕ) → length pdu ≡ length (data_header bits 0 sn ++ sdu)
    → 1 ≤ length sdu → length sdu ≤ 8188 → IsShort pdu
data_short bits sn sdu pdu same some few =
    let all : length (data_header bits 0 sn ++ sdu) ≡ length (data_header bits 0 sn) + length sdu =
    length-append (data_header bits 0 sn) sdu in
    (omega (arith, all, same, some), omega (arith, all, same, header_few bits sn, few))

pub ruleset data_steps = (header_take, header_drop, data_short)
