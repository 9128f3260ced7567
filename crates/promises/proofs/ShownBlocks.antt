-- What shows a block are records that show a part of one.
use Rattle.std.proofs.Common.{◌≡◌, ℕ, true, Option, Some, None, Result, Ok, Err, List, [], ◌∷◌, ◌++◌, map}
use Rattle.std.proofs.Common.{refl}
use Rattle.std.specs.Prelude.{slice_index_or}
use Rattle.std.specs.List.{AllByRecursion}
use Rattle.air_record.specs.declared.record.Record.{Record}
use Rattle.mac_pdu.specs.declared.fault.MacRefusal.{MacRefusal}
use Rattle.mac_pdu.specs.Items.{MacItem, front, element, sdu, padding}
use Rattle.pdcp_pdu.specs.declared.pdu.PdcpKind.{PdcpKind}
use Rattle.pdcp_pdu.specs.declared.pdu.PdcpKind.TheVariants as pdcp
use Rattle.pdcp_pdu.specs.declared.pdu.PdcpRefusal.{PdcpRefusal}
use Rattle.pdcp_pdu.specs.Pdus.{UserPdu, Sdu, Report, SrbPdu}
use Rattle.pdcp_pdu.specs.Reading.{user_at, srb_at}
use Rattle.rlc_pdu.specs.declared.fault.RlcRefusal.{RlcRefusal}
use Rattle.rlc_pdu.specs.declared.pdu.Segment.{Segment}
use Rattle.rlc_pdu.specs.Pdus.{UmdPdu, AmdPdu, AcknowledgedPdu, Payload, Status}
use Rattle.rlc_pdu.specs.Reading.{umd_at, am_at}
use Rattle.pdu_show.specs.declared.kinds.Layout.{Layout}
use Rattle.pdu_show.specs.declared.kinds.Layout.TheVariants as layouts
use Rattle.pdu_show.specs.Show.{user_shown, srb_shown, pdcp_shown, begins, ends, whole, wholes_shown, tm_shown}
use Rattle.pdu_show.specs.Show.{um_shown, amd_shown, am_shown, rlc_shown, item_shown, items_shown, shown_by}
use Rattle.promises.specs.Records.{is_shown}

abbrev pub AllShown : List Record → Type 0
AllShown told = AllByRecursion (λ one. is_shown one ≡ true) told

all_append : (a b : List Record) → AllShown a → AllShown b → AllShown (a ++ b)
all_append [] b p q = q
all_append (one ∷ more) b p q = (p.0, all_append more b p.1 q)

user_shows : (r : Result UserPdu PdcpRefusal) → is_shown (user_shown r) ≡ true
user_shows (Ok (Sdu sn octets)) = refl
user_shows (Ok (Report fms bitmap)) = refl
user_shows (Err fault) = refl

srb_shows : (r : Result SrbPdu PdcpRefusal) → is_shown (srb_shown r) ≡ true
srb_shows (Ok pdu) = refl
srb_shows (Err fault) = refl

pdcp_shows : (kind : PdcpKind) (octets : List ℕ) → is_shown (pdcp_shown kind octets) ≡ true
pdcp_shows pdcp.Srb octets = srb_shows (srb_at octets)
pdcp_shows (pdcp.Um bits) octets = user_shows (user_at bits octets)
pdcp_shows (pdcp.Am bits) octets = user_shows (user_at bits octets)

all_shows : (kind : PdcpKind) (xs : List (List ℕ)) → AllShown (map (pdcp_shown kind) xs)
all_shows kind [] = tt
all_shows kind (x ∷ xs) = (pdcp_shows kind x, all_shows kind xs)

wholes_show : (kind : PdcpKind) (fi : ℕ) (elements : List (List ℕ)) → AllShown (wholes_shown kind fi elements)
wholes_show kind fi elements = all_shows kind (whole (begins fi) (ends fi) elements)

tm_shows : (octets : List ℕ) → AllShown (tm_shown octets)
tm_shows [] = (refl, tt)
tm_shows (x ∷ xs) = (refl, tt)

um_shows : (kind : PdcpKind) (r : Result UmdPdu RlcRefusal) → AllShown (um_shown kind r)
um_shows kind (Ok pdu) = (refl, wholes_show kind pdu.fi pdu.elements)
um_shows kind (Err fault) = (refl, tt)

amd_shows : (kind : PdcpKind) (pdu : AmdPdu) (s : Option Segment) → AllShown (amd_shown kind pdu s)
amd_shows kind pdu None = (refl, wholes_show kind pdu.fi pdu.elements)
amd_shows kind pdu (Some s) = (refl, tt)

am_shows : (kind : PdcpKind) (r : Result AcknowledgedPdu RlcRefusal) → AllShown (am_shown kind r)
am_shows kind (Ok (Payload pdu)) = amd_shows kind pdu pdu.segment
am_shows kind (Ok (Status pdu)) = (refl, tt)
am_shows kind (Err fault) = (refl, tt)

rlc_shows : (layout : Option Layout) (octets : List ℕ) → AllShown (rlc_shown layout octets)
unfolding rlc_shown
rlc_shows None octets = tt
rlc_shows (Some layouts.Tm) octets = tm_shows octets
rlc_shows (Some (layouts.Um rlc_bits kind)) octets = um_shows kind (umd_at rlc_bits octets)
rlc_shows (Some (layouts.Am kind)) octets = am_shows kind (am_at octets)

item_shows : (kinds : List (Option Layout)) (i : MacItem) → AllShown (item_shown kinds i)
unfolding item_shown
item_shows kinds front = (refl, tt)
item_shows kinds (element control) = (refl, tt)
item_shows kinds (sdu lcid octets) = (refl, rlc_shows (slice_index_or kinds lcid None) octets)
item_shows kinds (padding octets) = (refl, tt)

items_show : (kinds : List (Option Layout)) (is : List MacItem) → AllShown (items_shown kinds is)
items_show kinds [] = tt
items_show kinds (i ∷ is) =
    all_append (item_shown kinds i) (items_shown kinds is) (item_shows kinds i) (items_show kinds is)

pub block_shows : (kinds : List (Option Layout)) (r : Result (List MacItem) MacRefusal) → AllShown (shown_by kinds r)
block_shows kinds (Ok items) = items_show kinds items
block_shows kinds (Err fault) = (refl, tt)
