-- Fields of bits in octets. The most significant bit stands first (TS 36.321 6.1.1, TS 36.322
-- 6.2.1.1).
use Rattle.std.specs.Prelude.{ℕ, zero, suc, ◌+◌, ◌-◌, ◌*◌, ◌/◌, ◌%◌, ◌^◌, ◌==◌, Bool, true, false}
use Rattle.std.specs.Prelude.{List, [], ◌∷◌, fold, length, take, drop, nat_lt, Option, Some, None}
use Rattle.std.specs.Prelude.{if◌then◌else◌}
use Rattle.std.specs.List.{flat_map}

-- a bit as a number
abbrev pub digit : Bool → ℕ
digit true = 1
digit false = 0

-- the number that bits write
abbrev pub number : List Bool → ℕ
number bits = fold (λ v b. 2 * v + digit b) 0 bits

-- the last n bits of a number
unfoldable pub bits : ℕ → ℕ → List Bool
bits zero v = []
bits (suc n) v = (v / 2 ^ n % 2 == 1) ∷ bits n v

-- the bits of octets
abbrev pub bits_of : List ℕ → List Bool
bits_of octets = flat_map (bits 8) octets

-- octets that are read, and how many of their bits have been
pub record Reading : Type 0 where
  pub octets : List ℕ
  pub at : ℕ

-- the bits that haven't been read
abbrev pub left : Reading → List Bool
left r = drop r.at (bits_of r.octets)

-- the field of n bits at the front, and the bits behind it; none where there are fewer bits
unfoldable pub take_field : ℕ → List Bool → Option (ℕ × List Bool)
take_field n bits = if nat_lt (length bits) n then None
    else Some (number (take n bits), drop n bits)

-- how many bits end the octet that n bits begin
abbrev pub filling : ℕ → ℕ
filling n = (8 - n % 8) % 8
