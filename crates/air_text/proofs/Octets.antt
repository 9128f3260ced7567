-- How many octets hexadecimal digits write.
use Rattle.std.proofs.Common.{◌≡◌, ◌≤◌, ◌<◌, ℕ, List, length, arith, Ok}
use Rattle.hex.specs.Hex.{decode_of}
use Rattle.hex.proofs.HexLemmas.{decode_of-ok}

-- digits write at least one octet
pub some_octets : (text octets : List ℕ) → decode_of text ≡ Ok octets → 0 < length text → 1 ≤ length octets
some_octets text octets e some = let twice = decode_of-ok text octets e in omega (arith, twice)
