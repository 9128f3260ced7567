-- What is shown of a block: its items in their order, and of each SDU of a known bearer the RLC and
-- PDCP PDUs in it (docs/formats/JOURNAL.md).
use Rattle.std.specs.Prelude.{ℕ, ◌%◌, ◌==◌, nat_lt, Bool, true, false, if◌then◌else◌, List, []}
use Rattle.std.specs.Prelude.{◌∷◌, ◌++◌, length, map, slice_index_or, Option, None, Some, Result}
use Rattle.std.specs.Prelude.{Ok, Err}
use Rattle.std.specs.Borrow.{Bor}
use Rattle.mac_pdu.specs.declared.item.Direction.{Direction}
use Rattle.mac_pdu.specs.declared.fault.MacRefusal.{MacRefusal}
use Rattle.mac_pdu.specs.Items.{MacItem, front, element, sdu, padding}
use Rattle.mac_pdu.specs.Reading.{reading}
use Rattle.rlc_pdu.specs.declared.fault.RlcRefusal.{RlcRefusal}
use Rattle.rlc_pdu.specs.declared.fault.RlcWhy.TheVariants.{Short}
use Rattle.rlc_pdu.specs.declared.pdu.Segment.{Segment}
use Rattle.rlc_pdu.specs.Pdus.{UmdPdu, AmdPdu, AcknowledgedPdu, Payload, Status}
use Rattle.rlc_pdu.specs.Reading.{umd_at, am_at}
use Rattle.pdcp_pdu.specs.declared.pdu.PdcpRefusal.{PdcpRefusal}
use Rattle.pdcp_pdu.specs.declared.pdu.PdcpKind.{PdcpKind}
use Rattle.pdcp_pdu.specs.declared.pdu.PdcpKind.TheVariants as pdcp
use Rattle.pdcp_pdu.specs.Pdus.{UserPdu, Sdu, Report, SrbPdu}
use Rattle.pdcp_pdu.specs.Reading.{user_at, srb_at}
use Rattle.air_record.specs.declared.record.Record.{Record}
use Rattle.air_record.specs.declared.record.Record.TheVariants as records
use Rattle.pdu_show.specs.declared.kinds.Layout.{Layout}
use Rattle.pdu_show.specs.declared.kinds.Layout.TheVariants as layouts

-- ---- PDCP

abbrev pub user_shown : Result UserPdu PdcpRefusal → Record
user_shown (Ok (Sdu sn octets)) = records.PdcpData sn (length octets)
user_shown (Ok (Report fms bitmap)) = records.PdcpReport fms bitmap
user_shown (Err fault) = records.BadPdcp fault

abbrev pub srb_shown : Result SrbPdu PdcpRefusal → Record
srb_shown (Ok pdu) = records.PdcpSrb pdu.sn (length pdu.octets) pdu.tag
srb_shown (Err fault) = records.BadPdcp fault

-- a PDCP PDU
abbrev pub pdcp_shown : PdcpKind → List ℕ → Record
pdcp_shown pdcp.Srb octets = srb_shown (srb_at octets)
pdcp_shown (pdcp.Um bits) octets = user_shown (user_at bits octets)
pdcp_shown (pdcp.Am bits) octets = user_shown (user_at bits octets)

-- ---- RLC

-- the framing info says that the first element begins an SDU, and that the last one ends one (TS
-- 36.322 6.2.2.6)
abbrev pub begins : ℕ → Bool
begins fi = nat_lt fi 2

abbrev pub ends : ℕ → Bool
ends fi = fi % 2 == 0

-- the elements that are whole SDUs
unfoldable pub whole : Bool → Bool → List (List ℕ) → List (List ℕ)
whole first last [] = []
whole first last (x ∷ []) = if first then (if last then x ∷ [] else []) else []
whole first last (x ∷ y ∷ rest) = if first then x ∷ whole true last (y ∷ rest)
    else whole true last (y ∷ rest)

-- an element that begins an SDU is whole where another follows or it ends one
abbrev pub whole_by : Bool → Bool → Bool → Bool
whole_by first last more = if first then (if more then true else last) else false

abbrev pub one_where : Bool → List ℕ → List (List ℕ)
one_where true x = x ∷ []
one_where false x = []

-- an element that was taken, if there was one, and those behind it
abbrev pub listed : Option (Bor (List ℕ)) → List (List ℕ) → List (List ℕ)
listed None more = []
listed (Some one) more = one.now ∷ more

-- the PDCP PDUs that are whole in a data PDU
abbrev pub wholes_shown : PdcpKind → ℕ → List (List ℕ) → List Record
wholes_shown kind fi elements = map (pdcp_shown kind) (whole (begins fi) (ends fi) elements)

abbrev pub tm_shown : List ℕ → List Record
tm_shown [] = records.BadRlc (record { at = 0; why = Short }) ∷ []
tm_shown (x ∷ xs) = records.RlcTm (length (x ∷ xs)) ∷ []

abbrev pub um_shown : PdcpKind → Result UmdPdu RlcRefusal → List Record
um_shown kind (Ok pdu) = records.RlcUm pdu.sn pdu.fi (map length pdu.elements)
    ∷ wholes_shown kind pdu.fi pdu.elements
um_shown kind (Err fault) = records.BadRlc fault ∷ []

abbrev pub amd_shown : PdcpKind → AmdPdu → Option Segment → List Record
amd_shown kind pdu None = records.RlcAm pdu.sn pdu.poll pdu.fi (map length pdu.elements)
    ∷ wholes_shown kind pdu.fi pdu.elements
amd_shown kind pdu (Some s) =
    records.RlcSeg pdu.sn pdu.poll pdu.fi s.last s.so (map length pdu.elements) ∷ []

abbrev pub am_shown : PdcpKind → Result AcknowledgedPdu RlcRefusal → List Record
am_shown kind (Ok (Payload pdu)) = amd_shown kind pdu pdu.segment
am_shown kind (Ok (Status pdu)) = records.RlcStatus pdu.ack pdu.nacks ∷ []
am_shown kind (Err fault) = records.BadRlc fault ∷ []

-- an RLC PDU by its layout; nothing where no bearer is known
unfoldable pub rlc_shown : Option Layout → List ℕ → List Record
rlc_shown None octets = []
rlc_shown (Some layouts.Tm) octets = tm_shown octets
rlc_shown (Some (layouts.Um rlc_bits kind)) octets = um_shown kind (umd_at rlc_bits octets)
rlc_shown (Some (layouts.Am kind)) octets = am_shown kind (am_at octets)

-- ---- MAC

unfoldable pub item_shown : List (Option Layout) → MacItem → List Record
item_shown kinds front = records.MacFront ∷ []
item_shown kinds (element control) = records.MacControl control ∷ []
item_shown kinds (sdu lcid octets) =
    records.MacSdu lcid (length octets) ∷ rlc_shown (slice_index_or kinds lcid None) octets
item_shown kinds (padding octets) = records.MacPad octets ∷ []

abbrev pub items_shown : List (Option Layout) → List MacItem → List Record
items_shown kinds [] = []
items_shown kinds (one ∷ more) = item_shown kinds one ++ items_shown kinds more

abbrev pub shown_by : List (Option Layout) → Result (List MacItem) MacRefusal → List Record
shown_by kinds (Ok items) = items_shown kinds items
shown_by kinds (Err fault) = records.BadMac fault ∷ []

-- a block
abbrev pub block_shown : Direction → List (Option Layout) → List ℕ → List Record
block_shown direction kinds block = shown_by kinds (reading direction block)
