-- A PDU in a new block is the one that its `send` names, by what it is and its number (TS 36.322
-- 6.2.1), and the SDUs that are whole in it are PDUs of PDCP (TS 36.323 6.2).
use Rattle.std.specs.Prelude.{ℕ, List, [], ◌∷◌, ◌≡◌, Ok, ◌⊎◌, ◌-◌, ◌/◌, ◌%◌, length, take, drop}
use Rattle.std.specs.Prelude.{◌^◌, ◌<◌, Bool, false, None, true, Option, Some, map}
use Rattle.std.specs.List.{AllByRecursion}
use Rattle.l2_types.specs.declared.event.How.{How}
use Rattle.bearer_types.specs.declared.event.Event.{Event}
use Rattle.bearer_types.specs.declared.event.Event.TheVariants.{Send}
use Rattle.pdcp_pdu.specs.Grammar.{user_spelling, IsBitmap, srb_spelling}
use Rattle.pdcp_pdu.specs.Pdus.{Sdu as DataPdu, Report, SrbPdu}
use Rattle.pdcp_pdu.specs.Reading.{user_at, srb_at}
use Rattle.pdcp_pdu.specs.declared.pdu.PdcpKind.{PdcpKind}
use Rattle.rlc_pdu.specs.Pdus.{UmdPdu, AmdPdu, Payload, Status}
use Rattle.rlc_pdu.specs.Reading.{umd_at, am_at}
use Rattle.rlc_pdu.specs.Writing.{umd_canonical, amd_canonical, status_written}
use Rattle.l2_bits.specs.Bits.{bits_of}
use Rattle.rlc_pdu.specs.declared.pdu.Nack.{Nack}
use Rattle.mac_pdu.specs.declared.builder.Sdu.{Sdu}
use Rattle.pdcp_pdu.specs.declared.pdu.PdcpKind.TheVariants as pdcp
use Rattle.l2_types.specs.declared.event.How.TheVariants as how

-- ---- what is told of the PDUs that are sent

pub record SentPdu : Type 0 where
  pub lcid : ℕ
  pub how : How
  pub sn : ℕ

abbrev pub sent_pdus : List Event → List SentPdu
sent_pdus [] = []
sent_pdus (Send lcid how sn ∷ events) =
    record { lcid = lcid; how = how; sn = sn } ∷ sent_pdus events
sent_pdus (event ∷ events) = sent_pdus events

-- ---- an SDU of RLC is a PDU of PDCP, as senders write it and as it is read (TS 36.323 6.2)

-- a data PDU of a data bearer
pub record IsData (bits : ℕ) (octets : List ℕ) : Type 0 where
  pub sn : ℕ
  pub data-part : List ℕ
  pub canonical : octets ≡ user_spelling bits (DataPdu sn data-part)
  pub read : user_at bits octets ≡ Ok (DataPdu sn data-part)

-- a status report: its bitmap ends with the last SDU that is held
pub record IsReport (bits : ℕ) (octets : List ℕ) : Type 0 where
  pub fms : ℕ
  pub bitmap : List ℕ
  pub ends : IsBitmap bitmap
  pub canonical : octets ≡ user_spelling bits (Report fms bitmap)
  pub read : user_at bits octets ≡ Ok (Report fms bitmap)

-- a PDU of a signalling bearer, with its MAC-I
pub record IsSignalling (octets : List ℕ) : Type 0 where
  pub pdu : SrbPdu
  pub canonical : octets ≡ srb_spelling pdu
  pub read : srb_at octets ≡ Ok pdu

-- only acknowledged data bearers report
abbrev pub IsPdcp : PdcpKind → List ℕ → Type 0
IsPdcp pdcp.Srb octets = IsSignalling octets
IsPdcp (pdcp.Um bits) octets = IsData bits octets
IsPdcp (pdcp.Am bits) octets = IsData bits octets ⊎ IsReport bits octets

-- the elements of a data PDU that are whole SDUs: all but the first where the upper bit of FI says
-- that it continues one, and the last where the lower bit says that its SDU goes on (TS 36.322
-- 6.2.2.6)
abbrev pub whole_sdus : ℕ → List (List ℕ) → List (List ℕ)
whole_sdus fi elements = drop (fi / 2) (take (length elements - fi % 2) elements)

-- ---- a PDU of a number, as senders write it and as it is read, on a bearer of a kind

pub record IsUmd (kind : PdcpKind) (bits sn : ℕ) (octets : List ℕ) : Type 0 where
  pub pdu : UmdPdu
  pub number : pdu.sn ≡ sn
  pub framing : pdu.fi < 2 ^ 2
  pub sdus : AllByRecursion (IsPdcp kind) (whole_sdus pdu.fi pdu.elements)
  pub canonical : octets ≡ umd_canonical bits pdu
  pub read : umd_at bits octets ≡ Ok pdu

-- a segment only where it is sent again
pub record IsAmd (kind : PdcpKind) (again : Bool) (sn : ℕ) (octets : List ℕ) : Type 0 where
  pub pdu : AmdPdu
  pub number : pdu.sn ≡ sn
  pub whole : again ≡ false → pdu.segment ≡ None
  pub framing : pdu.fi < 2 ^ 2
  pub sdus : AllByRecursion (IsPdcp kind) (whole_sdus pdu.fi pdu.elements)
  pub canonical : octets ≡ amd_canonical pdu
  pub read : am_at octets ≡ Ok (Payload pdu)

pub record IsStatus (ack : ℕ) (octets : List ℕ) : Type 0 where
  pub nacks : List Nack
  pub canonical : bits_of octets ≡ status_written ack nacks
  pub read : am_at octets ≡ Ok (Status (record { ack = ack; nacks = nacks }))

-- the mode of a bearer's RLC (TS 36.322 4.2.1), and the kind of its PDCP, which a transparent one
-- has not; the numbers of UMD PDUs have so many bits
pub data Mode : Type 0 where
  Transparent : Mode
  Unacknowledged : ℕ → PdcpKind → Mode
  Acknowledged : PdcpKind → Mode

-- a PDU as it is told of, on a channel of a mode
abbrev pub IsNamed : Option Mode → How → ℕ → List ℕ → Type 0
IsNamed (Some Transparent) how.Tm sn octets = (sn ≡ 0) × (0 < length octets)
IsNamed (Some (Unacknowledged bits kind)) how.New sn octets = IsUmd kind bits sn octets
IsNamed (Some (Acknowledged kind)) how.New sn octets = IsAmd kind false sn octets
IsNamed (Some (Acknowledged kind)) how.Re sn octets = IsAmd kind true sn octets
IsNamed (Some (Acknowledged kind)) how.Status sn octets = IsStatus sn octets
IsNamed channel how sn octets = ⊥

-- ---- the law: PDUs and what is told of them, each of its place, by the modes of the channels

abbrev pub AreNamed : (ℕ → Option Mode) → List SentPdu → List Sdu → Type 0
AreNamed modes [] [] = Unit {0}
AreNamed modes (s ∷ sent) (d ∷ sdus) =
    (d.lcid ≡ s.lcid) × IsNamed (modes s.lcid) s.how s.sn d.octets × AreNamed modes sent sdus
AreNamed modes sent sdus = ⊥

-- ---- a new block has the PDUs that its bearers tell of, channel by channel and in their order

-- the channels of the PDUs that are told of
abbrev pub sent_lcids : List Event → List ℕ
sent_lcids events = map (λ (s : SentPdu). s.lcid) (sent_pdus events)
