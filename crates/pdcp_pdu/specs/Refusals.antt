-- Why a PDU is refused: the first case that is true.
use Rattle.std.specs.Prelude.{ℕ, ◌/◌, ◌%◌, ◌==◌, nat_lt, ◌||◌, ◌&&◌, not, Bool, true, false, List}
use Rattle.std.specs.Prelude.{[], ◌∷◌, length, Option, None, Some, if◌then◌else◌}
use Rattle.pdcp_pdu.specs.declared.pdu.PdcpRefusal.{PdcpRefusal}
use Rattle.pdcp_pdu.specs.declared.pdu.PdcpWhy.{PdcpWhy}
use Rattle.pdcp_pdu.specs.declared.pdu.PdcpWhy.TheVariants.{Short, ReservedType, EmptyData}

-- the D/C bit says data (TS 36.323 6.3.7)
abbrev pub is_data : ℕ → Bool
is_data first = first / 128 % 2 == 1

-- a status report with D/C 0 has PDU type 000 (TS 36.323 6.3.8)
abbrev pub has_report_type : ℕ → Bool
has_report_type first = first / 16 % 8 == 0

-- the octets of the header that the first octet begins: with 15 bits that of a status report is
-- longer
abbrev pub header_size : ℕ → ℕ → ℕ
header_size bits first =
    if bits == 7 then 1
    else if bits == 15 && not (is_data first) && has_report_type first then 3
    else 2

-- a refusal, where its case is true, or else what follows
abbrev pub where_true : Bool → ℕ → PdcpWhy → Option PdcpRefusal → Option PdcpRefusal
where_true true at why others = Some (record { at = at; why = why })
where_true false at why others = others

-- the first true case of a PDU of a data bearer
abbrev pub user_refusal : ℕ → List ℕ → Option PdcpRefusal
user_refusal bits [] = Some (record { at = 0; why = Short })
user_refusal bits (first ∷ rest) =
    let size = header_size bits first in
    let total = length (first ∷ rest) in
    where_true (nat_lt total size) total Short
    (where_true (not (is_data first) && (bits == 7 || not (has_report_type first))) 0 ReservedType
    (where_true (is_data first && total == size) size EmptyData None))

-- the first true case of a PDU of a signalling bearer: a header, data and a MAC-I of 4 octets
abbrev pub srb_refusal : List ℕ → Option PdcpRefusal
srb_refusal octets =
    where_true (nat_lt (length octets) 5) (length octets) Short
    (where_true (length octets == 5) 1 EmptyData None)
