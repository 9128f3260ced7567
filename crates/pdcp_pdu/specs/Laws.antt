-- What was written is read again, of the definitions alone (TS 36.323 6.2).
use Rattle.std.specs.Prelude.{◌≡◌, ◌≢◌, ℕ, ◌<◌, ◌^◌, [], length, Ok}
use Rattle.pdcp_pdu.specs.Pdus.{UserPdu, Sdu, Report, SrbPdu, IsUserBits}
use Rattle.pdcp_pdu.specs.Grammar.{IsUserPdu, IsSrbPdu, user_spelling, srb_spelling}
use Rattle.pdcp_pdu.specs.Reading.{user_at, srb_at}

-- the fields of a PDU of a data bearer are in range
abbrev pub IsInRange : ℕ → UserPdu → Type 0
IsInRange bits (Sdu sn data-part) = (sn < 2 ^ bits) × (data-part ≢ [])
IsInRange bits (Report fms bitmap) = (fms < 2 ^ bits) × (bits ≢ 7)

-- the octets that a PDU of a data bearer is written as are that PDU and no other, and it is read
-- from them
pub record IsUserAgain (bits : ℕ) (pdu : UserPdu) : Type 0 where
  pub accepted : IsUserPdu bits pdu (user_spelling bits pdu)
  pub only : (other : UserPdu) → IsUserPdu bits other (user_spelling bits pdu) → other ≡ pdu
  pub read : user_at bits (user_spelling bits pdu) ≡ Ok pdu

abbrev pub UserAgain : Type 0
UserAgain = (bits : ℕ) (pdu : UserPdu) → IsUserBits bits → IsInRange bits pdu → IsUserAgain bits pdu

-- the fields of a PDU of a signalling bearer are in range
pub record IsSrbInRange (pdu : SrbPdu) : Type 0 where
  pub number : pdu.sn < 32
  pub some : pdu.octets ≢ []
  pub tag : length pdu.tag ≡ 4

-- the octets that a PDU of a signalling bearer is written as are that PDU and no other, and it is
-- read from them
pub record IsSrbAgain (pdu : SrbPdu) : Type 0 where
  pub accepted : IsSrbPdu pdu (srb_spelling pdu)
  pub only : (other : SrbPdu) → IsSrbPdu other (srb_spelling pdu) → other ≡ pdu
  pub read : srb_at (srb_spelling pdu) ≡ Ok pdu

abbrev pub SrbAgain : Type 0
SrbAgain = (pdu : SrbPdu) → IsSrbInRange pdu → IsSrbAgain pdu
