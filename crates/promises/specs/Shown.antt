-- What is shown of a new block behind it: of each PDU the record that its `send` names (TS 36.322
-- 6.2.1), and, where it is no segment, a record of each SDU that is whole in it (TS 36.323 6.2).
use Rattle.std.specs.Prelude.{ℕ, List, [], ◌∷◌, Bool, true, false, ◌≡◌, length, Ok, map, Option}
use Rattle.std.specs.Prelude.{Some, None, slice_index_or}
use Rattle.std.specs.List.{filter}
use Rattle.air_record.specs.declared.record.Record.{Record}
use Rattle.pdcp_pdu.specs.Grammar.{user_spelling, srb_spelling}
use Rattle.pdcp_pdu.specs.Pdus.{Sdu as DataPdu, Report}
use Rattle.pdcp_pdu.specs.declared.pdu.PdcpKind.{PdcpKind}
use Rattle.promises.specs.Names.{whole_sdus, Mode, Transparent, Unacknowledged, Acknowledged}
use Rattle.promises.specs.Names.{SentPdu}
use Rattle.promises.specs.Names.{sent_pdus}
use Rattle.rlc_pdu.specs.Pdus.{UmdPdu, AmdPdu, Payload, Status}
use Rattle.rlc_pdu.specs.Reading.{umd_at, am_at}
use Rattle.rlc_pdu.specs.declared.pdu.Segment.{Segment}
use Rattle.rlc_pdu.specs.declared.pdu.Nack.{Nack}
use Rattle.l2_types.specs.declared.event.How.{How}
use Rattle.mac_pdu.specs.declared.builder.Sdu.{Sdu}
use Rattle.pdu_show.specs.declared.kinds.Layout.{Layout}
use Rattle.l2_types.specs.declared.side.Side.{Side}
use Rattle.promises.specs.Built.{IsNewBlock}
use Rattle.promises.specs.Records.{events_of}
use Rattle.air_record.specs.declared.record.Record.TheVariants as records
use Rattle.pdcp_pdu.specs.declared.pdu.PdcpKind.TheVariants as pdcp
use Rattle.l2_types.specs.declared.event.How.TheVariants as how
use Rattle.pdu_show.specs.declared.kinds.Layout.TheVariants as layouts

-- ---- what stands behind a block

-- a PDU that is shown: its channel, the record of RLC, which stands behind that of MAC, and those
-- of PDCP behind it
pub record Shown : Type 0 where
  pub lcid : ℕ
  pub rlc : Record
  pub sdus : List Record

-- the records of PDCP that stand first
abbrev pub sdus_shown : List Record → List Record
sdus_shown (records.PdcpData sn len ∷ more) = records.PdcpData sn len ∷ sdus_shown more
sdus_shown (records.PdcpSrb sn len tag ∷ more) = records.PdcpSrb sn len tag ∷ sdus_shown more
sdus_shown (records.PdcpReport fms bitmap ∷ more) = records.PdcpReport fms bitmap ∷ sdus_shown more
sdus_shown (records.BadPdcp fault ∷ more) = records.BadPdcp fault ∷ sdus_shown more
sdus_shown more = []

abbrev pub pdus_shown : List Record → List Shown
pdus_shown [] = []
pdus_shown (records.MacSdu lcid len ∷ one ∷ more) =
    record { lcid = lcid; rlc = one; sdus = sdus_shown more } ∷ pdus_shown more
pdus_shown (one ∷ more) = pdus_shown more

-- what couldn't be read
abbrev pub is_bad : Record → Bool
is_bad (records.BadMac fault) = true
is_bad (records.BadRlc fault) = true
is_bad (records.BadPdcp fault) = true
is_bad one = false

-- ---- an SDU that is a PDU of PDCP, by its fields

pub record ShowsData (bits sn len : ℕ) (octets : List ℕ) : Type 0 where
  pub data-part : List ℕ
  pub long : length data-part ≡ len
  pub octets_are : octets ≡ user_spelling bits (DataPdu sn data-part)

pub record ShowsSignalling (sn len : ℕ) (tag octets : List ℕ) : Type 0 where
  pub text : List ℕ
  pub long : length text ≡ len
  pub octets_are : octets ≡ srb_spelling (record { sn = sn; octets = text; tag = tag })

abbrev pub IsShownSdu : PdcpKind → List ℕ → Record → Type 0
IsShownSdu pdcp.Srb octets (records.PdcpSrb sn len tag) = ShowsSignalling sn len tag octets
IsShownSdu (pdcp.Um bits) octets (records.PdcpData sn len) = ShowsData bits sn len octets
IsShownSdu (pdcp.Am bits) octets (records.PdcpData sn len) = ShowsData bits sn len octets
IsShownSdu (pdcp.Am bits) octets (records.PdcpReport fms bitmap) =
    octets ≡ user_spelling bits (Report fms bitmap)
IsShownSdu kind octets one = ⊥

-- each has its record, in that order
abbrev pub AreShownSdus : PdcpKind → List (List ℕ) → List Record → Type 0
AreShownSdus kind [] [] = Unit {0}
AreShownSdus kind (x ∷ xs) (one ∷ more) = IsShownSdu kind x one × AreShownSdus kind xs more
AreShownSdus kind xs shown = ⊥

-- ---- a PDU of RLC: the kind and the number that are told, and the PDU's other fields

pub record ShowsUmd (kind : PdcpKind) (bits sn : ℕ) (octets : List ℕ) (p : Shown) : Type 0 where
  pub pdu : UmdPdu
  pub read : umd_at bits octets ≡ Ok pdu
  pub rlc : p.rlc ≡ records.RlcUm sn pdu.fi (map length pdu.elements)
  pub sdus : AreShownSdus kind (whole_sdus pdu.fi pdu.elements) p.sdus

-- a segment shows no SDU, and is one only where it is sent again
abbrev pub amd_record : ℕ → AmdPdu → Option Segment → Record
amd_record sn pdu None = records.RlcAm sn pdu.poll pdu.fi (map length pdu.elements)
amd_record sn pdu (Some s) = records.RlcSeg sn pdu.poll pdu.fi s.last s.so (map length pdu.elements)

abbrev pub sdus_of : AmdPdu → Option Segment → List (List ℕ)
sdus_of pdu None = whole_sdus pdu.fi pdu.elements
sdus_of pdu (Some s) = []

pub record ShowsAmd (kind : PdcpKind) (again : Bool) (sn : ℕ) (octets : List ℕ)
    (p : Shown) : Type 0 where
  pub pdu : AmdPdu
  pub read : am_at octets ≡ Ok (Payload pdu)
  pub whole : again ≡ false → pdu.segment ≡ None
  pub rlc : p.rlc ≡ amd_record sn pdu pdu.segment
  pub sdus : AreShownSdus kind (sdus_of pdu pdu.segment) p.sdus

pub record ShowsStatus (ack : ℕ) (octets : List ℕ) (p : Shown) : Type 0 where
  pub nacks : List Nack
  pub read : am_at octets ≡ Ok (Status (record { ack = ack; nacks = nacks }))
  pub rlc : p.rlc ≡ records.RlcStatus ack nacks
  pub sdus : p.sdus ≡ []

-- a transparent PDU is an SDU of its own, which PDCP has no part in
abbrev pub IsShownAs : Option Mode → How → ℕ → List ℕ → Shown → Type 0
IsShownAs (Some Transparent) how.Tm sn octets p =
    (p.rlc ≡ records.RlcTm (length octets)) × (p.sdus ≡ [])
IsShownAs (Some (Unacknowledged bits kind)) how.New sn octets p = ShowsUmd kind bits sn octets p
IsShownAs (Some (Acknowledged kind)) how.New sn octets p = ShowsAmd kind false sn octets p
IsShownAs (Some (Acknowledged kind)) how.Re sn octets p = ShowsAmd kind true sn octets p
IsShownAs (Some (Acknowledged kind)) how.Status sn octets p = ShowsStatus sn octets p
IsShownAs mode how sn octets p = ⊥

-- PDUs, what is told of them and what is shown, each of its place
abbrev pub AreShown : (ℕ → Option Mode) → List SentPdu → List Sdu → List Shown → Type 0
AreShown modes [] [] [] = Unit {0}
AreShown modes (s ∷ sent) (d ∷ sdus) (p ∷ shown) =
    (p.lcid ≡ s.lcid) × IsShownAs (modes s.lcid) s.how s.sn d.octets p
    × AreShown modes sent sdus shown
AreShown modes sent sdus shown = ⊥

-- ---- where the bearers of an end are known as what they are

abbrev pub mode_in : Layout → Mode
mode_in layouts.Tm = Transparent
mode_in (layouts.Um bits kind) = Unacknowledged bits kind
mode_in (layouts.Am kind) = Acknowledged kind

abbrev pub IsKnownAs : Option Layout → Mode → Type 0
IsKnownAs None mode = ⊥
IsKnownAs (Some layout) mode = mode_in layout ≡ mode

abbrev pub AreKnown : List (Option Layout) → (ℕ → Option Mode) → Type 0
AreKnown kinds modes =
    (lcid : ℕ) (mode : Mode) → modes lcid ≡ Some mode
    → IsKnownAs (slice_index_or kinds lcid None) mode

-- what shows a new block shows the PDUs that are told of, channel by channel and in that order, and
-- all of it is read
pub record IsShownBlock (side : Side) (t grant : ℕ) (kinds : List (Option Layout))
    (told : List Record) : Type 0 where
  pub block : IsNewBlock side t grant kinds told
  pub known : AreKnown kinds block.block_is.modes
  pub shown : AreShown block.block_is.modes (sent_pdus (events_of side told)) block.block_is.sdus
      (pdus_shown told)
  pub read : filter is_bad told ≡ []
