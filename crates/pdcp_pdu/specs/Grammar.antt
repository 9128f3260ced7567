-- Which octets are which PDU, and how one is written. Reserved bits have any value where a PDU is
-- read, and are written 0.
use Rattle.std.specs.Prelude.{◌≡◌, ◌≢◌, ◌⊎◌, ℕ, ◌+◌, ◌-◌, ◌*◌, ◌/◌, ◌%◌, ◌<◌, ◌^◌, ◌==◌, Bool, List}
use Rattle.std.specs.Prelude.{[], ◌∷◌, ◌++◌, length, slice_index, if◌then◌else◌}
use Rattle.pdcp_pdu.specs.Pdus.{UserPdu, Sdu, Report, SrbPdu}

-- the header of a data PDU: D/C, which is 1, reserved bits, SN (TS 36.323 6.2.3, 6.2.4)
abbrev pub data_header : ℕ → ℕ → ℕ → List ℕ
data_header bits reserved sn =
    if bits == 7 then (128 + sn) ∷ []
    else if bits == 12 then (128 + reserved * 16 + sn / 256) ∷ (sn % 256) ∷ []
    else (128 + sn / 256) ∷ (sn % 256) ∷ []

-- how many values its reserved bits have
abbrev pub data_reserved : ℕ → ℕ
data_reserved bits = if bits == 12 then 8 else 1

-- the header of a status report: D/C, which is 0, PDU type 000, reserved bits, FMS (TS 36.323
-- 6.2.6)
abbrev pub report_header : ℕ → ℕ → ℕ → List ℕ
report_header bits reserved fms =
    if bits == 12 then (fms / 256) ∷ (fms % 256) ∷ []
    else (reserved / 2) ∷ (reserved % 2 * 128 + fms / 256) ∷ (fms % 256) ∷ []

abbrev pub report_reserved : ℕ → ℕ
report_reserved bits = if bits == 12 then 1 else 32

-- the header of a PDU of a signalling bearer: reserved bits, SN (TS 36.323 6.2.2)
abbrev pub srb_header : ℕ → ℕ → List ℕ
srb_header reserved sn = (reserved * 32 + sn) ∷ []

-- a data PDU has a data part of at least one octet
pub record IsSdu (bits sn : ℕ) (data-part octets : List ℕ) : Type 0 where
  pub reserved : ℕ
  pub few : reserved < data_reserved bits
  pub number : sn < 2 ^ bits
  pub some : data-part ≢ []
  pub spelled : octets ≡ data_header bits reserved sn ++ data-part

-- a status report has any bitmap; with numbers of 7 bits there is none
pub record IsReport (bits fms : ℕ) (bitmap octets : List ℕ) : Type 0 where
  pub reserved : ℕ
  pub long : bits ≢ 7
  pub few : reserved < report_reserved bits
  pub number : fms < 2 ^ bits
  pub spelled : octets ≡ report_header bits reserved fms ++ bitmap

-- octets are a PDU of a data bearer whose numbers have so many bits
abbrev pub IsUserPdu : ℕ → UserPdu → List ℕ → Type 0
IsUserPdu bits (Sdu sn data-part) octets = IsSdu bits sn data-part octets
IsUserPdu bits (Report fms bitmap) octets = IsReport bits fms bitmap octets

-- octets are a PDU of a signalling bearer
pub record IsSrbPdu (pdu : SrbPdu) (octets : List ℕ) : Type 0 where
  pub reserved : ℕ
  pub few : reserved < 8
  pub number : pdu.sn < 32
  pub some : pdu.octets ≢ []
  pub tag : length pdu.tag ≡ 4
  pub spelled : octets ≡ srb_header reserved pdu.sn ++ pdu.octets ++ pdu.tag

-- how a PDU of a data bearer is written
abbrev pub user_spelling : ℕ → UserPdu → List ℕ
user_spelling bits (Sdu sn data-part) = data_header bits 0 sn ++ data-part
user_spelling bits (Report fms bitmap) = report_header bits 0 fms ++ bitmap

-- how a PDU of a signalling bearer is written
abbrev pub srb_spelling : SrbPdu → List ℕ
srb_spelling pdu = srb_header 0 pdu.sn ++ pdu.octets ++ pdu.tag

-- bit k of a bitmap, the highest of its first octet first; 0 past its end (TS 36.323 6.3.10)
abbrev pub bit_of : List ℕ → ℕ → Bool
bit_of bitmap k = (slice_index bitmap (k / 8) / 2 ^ (7 - k % 8)) % 2 == 1

-- the bitmap of a status report that is written: none, or its last octet isn't 0
abbrev pub IsBitmap : List ℕ → Type 0
IsBitmap bitmap = (bitmap ≡ []) ⊎ (slice_index bitmap (length bitmap - 1) ≢ 0)
