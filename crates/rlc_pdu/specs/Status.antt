-- Which octets are which STATUS PDU (TS 36.322 6.2.1.6), by their bits: D/C, which is 0, CPT(3),
-- which is 0, ACK_SN(10) E1, then the entries, and what fills the last octet, which has any value
-- where a PDU is read.
use Rattle.std.specs.Prelude.{◌≡◌, ℕ, ◌+◌, ◌*◌, ◌/◌, ◌<◌, ◌^◌, Bool, true, false, List, [], ◌∷◌}
use Rattle.std.specs.Prelude.{◌++◌, length, Option, Some, None, All}
use Rattle.l2_bits.specs.Bits.{bits, bits_of, digit}
use Rattle.rlc_pdu.specs.declared.pdu.Part.{Part}
use Rattle.rlc_pdu.specs.declared.pdu.Nack.{Nack}
use Rattle.rlc_pdu.specs.Pdus.{StatusPdu, IsNack}

-- E1: an entry follows
abbrev pub has_more : List Nack → Bool
has_more [] = false
has_more (n ∷ ns) = true

-- E2: SOstart and SOend follow
abbrev pub has_part : Option Part → ℕ
has_part None = 0
has_part (Some p) = 1

-- SOstart(15) SOend(15)
abbrev pub part_bits : Option Part → List Bool
part_bits None = []
part_bits (Some p) = bits 15 p.start ++ bits 15 p.end

-- an entry: NACK_SN(10) E1 E2, and its range
abbrev pub nack_bits : Nack → Bool → List Bool
nack_bits n more =
    bits 10 n.sn ++ (bits 1 (digit more) ++ (bits 1 (has_part n.part) ++ part_bits n.part))

abbrev pub nacks_bits : List Nack → List Bool
nacks_bits [] = []
nacks_bits (n ∷ ns) = nack_bits n (has_more ns) ++ nacks_bits ns

abbrev pub status_bits : ℕ → List Nack → List Bool
status_bits ack nacks =
    bits 4 0 ++ (bits 10 ack ++ (bits 1 (digit (has_more nacks)) ++ nacks_bits nacks))

-- octets are a STATUS PDU
pub record IsStatusPdu (pdu : StatusPdu) (octets : List ℕ) : Type 0 where
  pub free : List Bool
  pub few : length free < 8
  pub number : pdu.ack < 2 ^ 10
  pub nacks : All IsNack pdu.nacks
  pub spelled : bits_of octets ≡ status_bits pdu.ack pdu.nacks ++ free

-- ---- sizes

-- how many bits an entry has
abbrev pub nack_size : Nack → ℕ
nack_size n = 12 + 30 * has_part n.part

-- how many bits entries have
abbrev pub nacks_size : List Nack → ℕ
nacks_size [] = 0
nacks_size (n ∷ ns) = nack_size n + nacks_size ns

-- how many octets a STATUS with these entries has
abbrev pub status_size : List Nack → ℕ
status_size nacks = (15 + nacks_size nacks + 7) / 8
