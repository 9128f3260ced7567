-- PDCP PDUs by their fields.
use Rattle.std.specs.Prelude.{◌≡◌, ◌⊎◌, ℕ, List}
use Rattle.pdcp_pdu.specs.declared.pdu.Srb.{Srb}
use Rattle.pdcp_pdu.specs.declared.pdu.User.{User}
use Rattle.pdcp_pdu.specs.declared.pdu.User.TheVariants as users

-- a PDU of a data bearer: a data PDU, or a status report (TS 36.323 6.2.3, 6.2.4, 6.2.6)
pub data UserPdu : Type 0 where
  Sdu : ℕ → List ℕ → UserPdu  -- SN and data part
  Report : ℕ → List ℕ → UserPdu  -- FMS and bitmap

-- a PDU of a signalling bearer, with its MAC-I (TS 36.323 6.2.2)
pub record SrbPdu : Type 0 where
  pub sn : ℕ
  pub octets : List ℕ
  pub tag : List ℕ

-- the fields that a reader gives
abbrev pub user_of : User → UserPdu
user_of (users.Sdu sn octets) = Sdu sn octets.now
user_of (users.Report fms bitmap) = Report fms bitmap.now

abbrev pub srb_of : Srb → SrbPdu
srb_of s = record { sn = s.sn; octets = s.octets.now; tag = s.tag }

-- the lengths of the sequence number on a data bearer (TS 36.323 6.3.2; 15 is this project's
-- profile)
abbrev pub IsUserBits : ℕ → Type 0
IsUserBits bits = (bits ≡ 7) ⊎ (bits ≡ 12) ⊎ (bits ≡ 15)
