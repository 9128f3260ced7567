-- The tests that decide of a new block whether it has right form (TS 36.321 6.1.2, TS 36.322 6.2.1,
-- TS 36.323 6.2): what is read is written again, and compared.
use Rattle.std.specs.Prelude.{ℕ, ◌+◌, ◌-◌, ◌*◌, ◌/◌, ◌%◌, ◌==◌, nat_lt, Bool, true, false, ◌&&◌}
use Rattle.std.specs.Prelude.{◌||◌, if◌then◌else◌, not, drop, List, [], ◌∷◌, length, Option, Some}
use Rattle.std.specs.Prelude.{None, is_none, Result, Ok, Err, slice_index, slice_index_or}
use Rattle.std.specs.Cmp.Lexicographic.{pointwise}
use Rattle.std.specs.Str.{bytes_eq}
use Rattle.l2_bits.specs.Bits.{bits_of, number}
use Rattle.l2_types.specs.declared.event.How.{How}
use Rattle.l2_types.specs.declared.event.How.TheVariants as hows
use Rattle.mac_pdu.specs.declared.builder.Sdu.{Sdu}
use Rattle.mac_pdu.specs.declared.fault.MacRefusal.{MacRefusal}
use Rattle.mac_pdu.specs.declared.item.Direction.{Direction}
use Rattle.mac_pdu.specs.Items.{MacItem}
use Rattle.mac_pdu.specs.Reading.{reading}
use Rattle.mac_pdu.specs.Writing.{canonical}
use Rattle.rlc_pdu.specs.declared.fault.RlcRefusal.{RlcRefusal}
use Rattle.rlc_pdu.specs.Pdus.{UmdPdu, AmdPdu, StatusPdu, AcknowledgedPdu, Payload, Status}
use Rattle.rlc_pdu.specs.Reading.{umd_at, am_at}
use Rattle.rlc_pdu.specs.Writing.{umd_canonical, amd_canonical, status_written}
use Rattle.pdcp_pdu.specs.declared.pdu.PdcpKind.{PdcpKind}
use Rattle.pdcp_pdu.specs.declared.pdu.PdcpKind.TheVariants as pdcp
use Rattle.pdcp_pdu.specs.declared.pdu.PdcpRefusal.{PdcpRefusal}
use Rattle.pdcp_pdu.specs.Grammar.{user_spelling, srb_spelling}
use Rattle.pdcp_pdu.specs.Pdus.{UserPdu, Sdu as DataPdu, Report, SrbPdu}
use Rattle.pdcp_pdu.specs.Reading.{user_at, srb_at}
use Rattle.pdu_show.specs.declared.kinds.Layout.{Layout}
use Rattle.pdu_show.specs.declared.kinds.Layout.TheVariants as layouts
use Rattle.promises.specs.Names.{SentPdu, whole_sdus}
use Rattle.promises.specs.RightForm.{sdus_in, unpadded}

-- ---- SDUs of RLC

-- a bitmap is empty, or its last octet isn't 0
abbrev pub is_bitmap : List ℕ → Bool
is_bitmap bitmap =
    (length bitmap == 0) || not (slice_index bitmap (length bitmap - 1) == 0)

-- `reports`: a status report may stand there
abbrev pub is_user_by : Bool → ℕ → List ℕ → Result UserPdu PdcpRefusal → Bool
is_user_by reports bits octets (Ok (DataPdu sn data-part)) =
    bytes_eq (user_spelling bits (DataPdu sn data-part)) octets
is_user_by reports bits octets (Ok (Report fms bitmap)) =
    reports && is_bitmap bitmap && bytes_eq (user_spelling bits (Report fms bitmap)) octets
is_user_by reports bits octets (Err fault) = false

abbrev pub is_user : Bool → ℕ → List ℕ → Bool
is_user reports bits octets = is_user_by reports bits octets (user_at bits octets)

abbrev pub is_signalling_by : List ℕ → Result SrbPdu PdcpRefusal → Bool
is_signalling_by octets (Ok pdu) = bytes_eq (srb_spelling pdu) octets
is_signalling_by octets (Err fault) = false

abbrev pub is_signalling : List ℕ → Bool
is_signalling octets = is_signalling_by octets (srb_at octets)

abbrev pub is_pdcp : PdcpKind → List ℕ → Bool
is_pdcp pdcp.Srb octets = is_signalling octets
is_pdcp (pdcp.Um bits) octets = is_user false bits octets
is_pdcp (pdcp.Am bits) octets = is_user true bits octets

abbrev pub are_pdcp : PdcpKind → List (List ℕ) → Bool
are_pdcp kind [] = true
are_pdcp kind (x ∷ xs) = is_pdcp kind x && are_pdcp kind xs

-- ---- PDUs of RLC

-- what fills the octet behind an odd number of units is 0; there is a unit for each of n elements
-- but the last, behind a header of so many octets (TS 36.322 6.2.1.3)
abbrev pub is_filled : List ℕ → ℕ → ℕ → Bool
is_filled octets header n =
    ((n - 1) % 2 == 0) || (slice_index octets (header + (n - 1) / 2 * 3 + 1) % 16 == 0)

-- the octets of a UMD PDU's header, and that those of its bits that are reserved are 0
abbrev pub umd_size : ℕ → ℕ
umd_size bits = if bits == 5 then 1 else 2

abbrev pub is_clear : ℕ → List ℕ → Bool
is_clear bits octets = (bits == 5) || (slice_index octets 0 / 32 == 0)

abbrev pub is_umd_written : PdcpKind → ℕ → List ℕ → UmdPdu → Bool
is_umd_written kind bits octets pdu =
    bytes_eq (umd_canonical bits pdu) octets && are_pdcp kind (whole_sdus pdu.fi pdu.elements)

abbrev pub is_umd_by : PdcpKind → ℕ → ℕ → List ℕ → Result UmdPdu RlcRefusal → Bool
is_umd_by kind bits sn octets (Ok pdu) =
    (pdu.sn == sn) && nat_lt pdu.fi 4 && is_umd_written kind bits octets pdu
is_umd_by kind bits sn octets (Err fault) = false

abbrev pub is_umd : PdcpKind → ℕ → ℕ → List ℕ → Bool
is_umd kind bits sn octets = is_umd_by kind bits sn octets (umd_at bits octets)

abbrev pub is_amd_written : PdcpKind → List ℕ → AmdPdu → Bool
is_amd_written kind octets pdu =
    bytes_eq (amd_canonical pdu) octets && are_pdcp kind (whole_sdus pdu.fi pdu.elements)

-- a segment only where it is sent again
abbrev pub is_payload : PdcpKind → Bool → ℕ → List ℕ → AmdPdu → Bool
is_payload kind again sn octets pdu =
    (pdu.sn == sn) && (again || is_none pdu.segment) && nat_lt pdu.fi 4
    && is_amd_written kind octets pdu

abbrev pub is_amd_by : PdcpKind → Bool → ℕ → List ℕ → Result AcknowledgedPdu RlcRefusal → Bool
is_amd_by kind again sn octets (Ok (Payload pdu)) = is_payload kind again sn octets pdu
is_amd_by kind again sn octets (Ok (Status pdu)) = false
is_amd_by kind again sn octets (Err fault) = false

abbrev pub is_amd : PdcpKind → Bool → ℕ → List ℕ → Bool
is_amd kind again sn octets = is_amd_by kind again sn octets (am_at octets)

abbrev pub same_bit : Bool → Bool → Bool
same_bit true b = b
same_bit false b = not b

abbrev pub is_status_written : List ℕ → StatusPdu → Bool
is_status_written octets pdu =
    pointwise same_bit (status_written pdu.ack pdu.nacks) (bits_of octets)

-- the bits are 0 that fill the last octet of a STATUS, behind so many (TS 36.322 6.2.1.6)
abbrev pub ends_clear : List ℕ → ℕ → Bool
ends_clear octets n = number (drop n (bits_of octets)) == 0

abbrev pub is_control_by : ℕ → List ℕ → Result AcknowledgedPdu RlcRefusal → Bool
is_control_by ack octets (Ok (Payload pdu)) = false
is_control_by ack octets (Ok (Status pdu)) =
    (pdu.ack == ack) && is_status_written octets pdu
is_control_by ack octets (Err fault) = false

abbrev pub is_status : ℕ → List ℕ → Bool
is_status ack octets = is_control_by ack octets (am_at octets)

-- ---- a PDU as it is named, on a bearer that is known so

abbrev pub is_tm : How → Bool
is_tm hows.Tm = true
is_tm hows.New = false
is_tm hows.Re = false
is_tm hows.Status = false

abbrev pub is_new : How → Bool
is_new hows.Tm = false
is_new hows.New = true
is_new hows.Re = false
is_new hows.Status = false

abbrev pub is_acknowledged : PdcpKind → How → ℕ → List ℕ → Bool
is_acknowledged kind hows.Tm sn octets = false
is_acknowledged kind hows.New sn octets = is_amd kind false sn octets
is_acknowledged kind hows.Re sn octets = is_amd kind true sn octets
is_acknowledged kind hows.Status sn octets = is_status sn octets

abbrev pub is_named : Option Layout → How → ℕ → List ℕ → Bool
is_named None how sn octets = false
is_named (Some layouts.Tm) how sn octets =
    is_tm how && (sn == 0) && nat_lt 0 (length octets)
is_named (Some (layouts.Um bits kind)) how sn octets = is_new how && is_umd kind bits sn octets
is_named (Some (layouts.Am kind)) how sn octets = is_acknowledged kind how sn octets

-- the SDU on a channel is the PDU that comes next, if one does
abbrev pub is_next : List (Option Layout) → Option SentPdu → ℕ → List ℕ → Bool
is_next kinds None lcid octets = false
is_next kinds (Some s) lcid octets =
    (lcid == s.lcid) && is_named (slice_index_or kinds s.lcid None) s.how s.sn octets

abbrev pub are_named : List (Option Layout) → List SentPdu → List Sdu → Bool
are_named kinds [] [] = true
are_named kinds (s ∷ sent) (d ∷ sdus) =
    is_next kinds (Some s) d.lcid d.octets && are_named kinds sent sdus
are_named kinds sent sdus = false

-- ---- a block

-- SDUs of one octet at least
abbrev pub have_octets : List Sdu → Bool
have_octets [] = true
have_octets (d ∷ sdus) = nat_lt 0 (length d.octets) && have_octets sdus

abbrev pub is_canonical_by : List ℕ → Result (List MacItem) MacRefusal → Bool
is_canonical_by octets (Ok items) =
    have_octets (sdus_in items) && bytes_eq (canonical (unpadded items) (length octets)) octets
is_canonical_by octets (Err fault) = false

abbrev pub is_canonical : Direction → List ℕ → Bool
is_canonical direction octets = is_canonical_by octets (reading direction octets)

abbrev pub names_by : List (Option Layout) → List SentPdu → Result (List MacItem) MacRefusal → Bool
names_by kinds sent (Ok items) = are_named kinds sent (sdus_in items)
names_by kinds sent (Err fault) = false

abbrev pub carries : Direction → List (Option Layout) → List SentPdu → List ℕ → Bool
carries direction kinds sent octets =
    names_by kinds sent (reading direction octets) && is_canonical direction octets
