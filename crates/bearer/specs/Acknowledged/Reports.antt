-- A STATUS, by its octets (TS 36.322 6.2.1.6).
use Rattle.std.specs.Prelude.{ℕ, zero, suc, ◌/◌, Bool, List, [], ◌∷◌, length, take, drop}
use Rattle.l2_bits.specs.Bits.{number}
use Rattle.rlc_pdu.specs.declared.Nack.{Nack}
use Rattle.rlc_pdu.specs.Writing.{status_written}

-- the first so many octets of bits
abbrev pub octets_in : ℕ → List Bool → List ℕ
octets_in zero bits = []
octets_in (suc n) bits = number (take 8 bits) ∷ octets_in n (drop 8 bits)

-- the octets that bits write, eight bits to each
abbrev pub octets_of : List Bool → List ℕ
octets_of bits = octets_in (length bits / 8) bits

abbrev pub status_octets : ℕ → List Nack → List ℕ
status_octets ack nacks = octets_of (status_written ack nacks)
