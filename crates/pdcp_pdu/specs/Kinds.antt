-- What the kind of an entity settles.
use Rattle.std.specs.Prelude.{◌≡◌, ◌⊎◌, ℕ, Bool, true, false}
use Rattle.pdcp_pdu.specs.declared.pdu.PdcpKind.{PdcpKind}
use Rattle.pdcp_pdu.specs.declared.pdu.PdcpKind.TheVariants.{Srb, Um, Am}

-- the kinds whose sequence numbers have a length that there is (TS 36.323 6.3.2; 15 is this
-- project's profile)
abbrev pub IsKind : PdcpKind → Type 0
IsKind Srb = Unit {0}
IsKind (Um bits) = (bits ≡ 7) ⊎ (bits ≡ 12)
IsKind (Am bits) = (bits ≡ 12) ⊎ (bits ≡ 15)

-- the bits of the sequence number (TS 36.323 6.3.2)
abbrev pub bits_of : PdcpKind → ℕ
bits_of Srb = 5
bits_of (Um bits) = bits
bits_of (Am bits) = bits

-- a data bearer over acknowledged RLC: what was taken is kept until it is confirmed, and received
-- SDUs may be held
abbrev pub is_am : PdcpKind → Bool
is_am Srb = false
is_am (Um bits) = false
is_am (Am bits) = true
