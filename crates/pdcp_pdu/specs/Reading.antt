-- What a reader answers, as a function of the octets (TS 36.323 6.2, 6.3). The laws say that this
-- is the grammar and the first refusal.
use Rattle.std.specs.Prelude.{ℕ, ◌+◌, ◌-◌, ◌*◌, ◌%◌, ◌==◌, nat_lt, List, [], ◌∷◌, length, take}
use Rattle.std.specs.Prelude.{drop, slice_index, Result, Ok, Err, if◌then◌else◌}
use Rattle.pdcp_pdu.specs.Pdus.{UserPdu, Sdu, Report, SrbPdu}
use Rattle.pdcp_pdu.specs.Refusals.{is_data, has_report_type}
use Rattle.pdcp_pdu.specs.declared.pdu.PdcpRefusal.{PdcpRefusal}
use Rattle.pdcp_pdu.specs.declared.pdu.PdcpWhy.{PdcpWhy}
use Rattle.pdcp_pdu.specs.declared.pdu.PdcpWhy.TheVariants.{Short, ReservedType, EmptyData}

abbrev pub refused : {A : Type 0} → ℕ → PdcpWhy → Result A PdcpRefusal
refused at why = Err (record { at = at; why = why })

-- a data PDU, of what stands behind its header
unfoldable pub sdu_at : ℕ → ℕ → List ℕ → Result UserPdu PdcpRefusal
sdu_at at sn [] = refused at EmptyData
sdu_at at sn (o ∷ os) = Ok (Sdu sn (o ∷ os))

-- with numbers of 7 bits
unfoldable pub short_user : List ℕ → Result UserPdu PdcpRefusal
short_user [] = refused 0 Short
short_user (a ∷ rest) = if is_data a then sdu_at 1 (a % 128) rest else refused 0 ReservedType

-- with numbers of 12 bits
unfoldable pub middle_user : List ℕ → Result UserPdu PdcpRefusal
middle_user [] = refused 0 Short
middle_user (a ∷ []) = refused 1 Short
middle_user (a ∷ b ∷ rest) =
    if is_data a then sdu_at 2 (a % 16 * 256 + b) rest
    else if has_report_type a then Ok (Report (a % 16 * 256 + b) rest)
    else refused 0 ReservedType

-- a status report with numbers of 15 bits, from its second octet on
unfoldable pub long_report : ℕ → List ℕ → Result UserPdu PdcpRefusal
long_report b [] = refused 2 Short
long_report b (c ∷ rest) = Ok (Report (b % 128 * 256 + c) rest)

-- with numbers of 15 bits
unfoldable pub long_user : List ℕ → Result UserPdu PdcpRefusal
long_user [] = refused 0 Short
long_user (a ∷ []) = refused 1 Short
long_user (a ∷ b ∷ rest) =
    if is_data a then sdu_at 2 (a % 128 * 256 + b) rest
    else if has_report_type a then long_report b rest
    else refused 0 ReservedType

-- a PDU of a data bearer
abbrev pub user_at : ℕ → List ℕ → Result UserPdu PdcpRefusal
user_at bits octets = if bits == 7 then short_user octets else if bits == 12
    then middle_user octets else long_user octets

-- a PDU of a signalling bearer
unfoldable pub srb_at : List ℕ → Result SrbPdu PdcpRefusal
srb_at octets =
    if nat_lt (length octets) 5 then refused (length octets) Short
    else if length octets == 5 then refused 1 EmptyData
    else Ok (record {
      sn = slice_index octets 0 % 32;
      octets = drop 1 (take (length octets - 4) octets);
      tag = drop (length octets - 4) octets;
    })
