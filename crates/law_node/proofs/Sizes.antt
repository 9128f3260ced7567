-- How many octets PDUs of RLC have.
use Rattle.std.proofs.Common.{◌≡◌, ℕ, ◌+◌, ◌-◌, ◌*◌, ◌/◌, ◌==◌, Bool, true, false, List, [], ◌∷◌, ◌++◌, length, Option}
use Rattle.std.proofs.Common.{Some, None, refl, arith}
use Rattle.std.proofs.lemmas.List.{length-append}
use Rattle.l2_bits.specs.Bits.{bits, digit, filling}
use Rattle.l2_bits.proofs.BitFields.{length-bits}
use Rattle.rlc_pdu.specs.declared.pdu.Nack.{Nack}
use Rattle.rlc_pdu.specs.declared.pdu.Part.{Part}
use Rattle.rlc_pdu.specs.declared.pdu.Segment.{Segment}
use Rattle.rlc_pdu.specs.Grammar.{umd_header, amd_header, has_segment, has_units}
use Rattle.rlc_pdu.specs.Pdus.{but_last}
use Rattle.rlc_pdu.specs.Status.{has_more, has_part, part_bits, nack_bits, nacks_bits, status_bits, nack_size}
use Rattle.rlc_pdu.specs.Status.{nacks_size, status_size}
use Rattle.rlc_pdu.specs.Units.{units_octets}
use Rattle.rlc_pdu.specs.Writing.{umd_written, amd_written, status_written, header_len}
use Rattle.rlc_um.specs.Sender.{head_of}

-- ---- data PDUs

units_size : (lis : List ℕ) → length (units_octets 0 lis) ≡ (12 * length lis + 7) / 8
units_size [] = refl
units_size (x ∷ []) = refl
units_size (x ∷ y ∷ lis) = omega (arith, units_size lis)

lis_size : (lens : List ℕ) → length (but_last lens) ≡ length lens - 1
lis_size [] = refl
lis_size (n ∷ []) = refl
lis_size (n ∷ m ∷ ns) = omega (arith, lis_size (m ∷ ns))

sized : (header lens field : List ℕ) (fixed : ℕ) → length header ≡ fixed
    → length (header ++ (units_octets 0 (but_last lens) ++ field)) ≡ header_len fixed (length lens) + length field
sized header lens field fixed e =
    omega (
      arith,
      e,
      length-append header (units_octets 0 (but_last lens) ++ field),
      length-append (units_octets 0 (but_last lens)) field,
      units_size (but_last lens),
      lis_size lens,
    )

umd_fixed : (bits more sn fi : ℕ) (b : Bool) → (bits == 5) ≡ b → length (umd_header bits 0 fi more sn) ≡ head_of bits
umd_fixed bits more sn fi true e = rw e refl
umd_fixed bits more sn fi false e = rw e refl

amd_fixed : (poll : Bool) (fi more sn : ℕ) (segment : Option Segment)
    → length (amd_header poll fi segment more sn) ≡ 2 + 2 * has_segment segment
amd_fixed poll fi more sn None = refl
amd_fixed poll fi more sn (Some s) = refl

pub umd_size : (bits sn fi : ℕ) (lens field : List ℕ)
    → length (umd_written bits sn fi lens field) ≡ header_len (head_of bits) (length lens) + length field
umd_size bits sn fi lens field =
    sized (umd_header bits 0 fi (has_units lens) sn) lens field (head_of bits)
    (umd_fixed bits (has_units lens) sn fi (bits == 5) refl)

pub amd_size : (sn : ℕ) (poll : Bool) (fi : ℕ) (segment : Option Segment) (lens field : List ℕ)
    → length (amd_written sn poll fi segment lens field)
    ≡ header_len (2 + 2 * has_segment segment) (length lens) + length field
amd_size sn poll fi segment lens field =
    sized (amd_header poll fi segment (has_units lens) sn) lens field (2 + 2 * has_segment segment)
    (amd_fixed poll fi (has_units lens) sn segment)

-- ---- STATUS PDUs

part_size : (p : Option Part) → length (part_bits p) ≡ 30 * has_part p
part_size None = refl
part_size (Some p) =
    omega (arith, length-append (bits 15 p.start) (bits 15 p.end), length-bits 15 p.start, length-bits 15 p.end)

nack_bits_size : (n : Nack) (more : Bool) → length (nack_bits n more) ≡ nack_size n
nack_bits_size n more =
    omega (
      arith,
      length-append (bits 10 n.sn) (bits 1 (digit more) ++ (bits 1 (has_part n.part) ++ part_bits n.part)),
      length-append (bits 1 (digit more)) (bits 1 (has_part n.part) ++ part_bits n.part),
      length-append (bits 1 (has_part n.part)) (part_bits n.part),
      length-bits 10 n.sn,
      length-bits 1 (digit more),
      length-bits 1 (has_part n.part),
      part_size n.part,
    )

nacks_bits_size : (ns : List Nack) → length (nacks_bits ns) ≡ nacks_size ns
nacks_bits_size [] = refl
nacks_bits_size (n ∷ ns) =
    omega (
      arith,
      length-append (nack_bits n (has_more ns)) (nacks_bits ns),
      nack_bits_size n (has_more ns),
      nacks_bits_size ns,
    )

status_bits_size : (ack : ℕ) (nacks : List Nack) → length (status_bits ack nacks) ≡ 15 + nacks_size nacks
status_bits_size ack nacks =
    omega (
      arith,
      length-append (bits 4 0) (bits 10 ack ++ (bits 1 (digit (has_more nacks)) ++ nacks_bits nacks)),
      length-append (bits 10 ack) (bits 1 (digit (has_more nacks)) ++ nacks_bits nacks),
      length-append (bits 1 (digit (has_more nacks))) (nacks_bits nacks),
      length-bits 4 0,
      length-bits 10 ack,
      length-bits 1 (digit (has_more nacks)),
      nacks_bits_size nacks,
    )

-- its bits, with those that fill the last octet
pub status_size_is : (ack : ℕ) (nacks : List Nack) → length (status_written ack nacks) / 8 ≡ status_size nacks
status_size_is ack nacks =
    let n = length (status_bits ack nacks) in
    omega (
      arith,
      length-append (status_bits ack nacks) (bits (filling n) 0),
      length-bits (filling n) 0,
      status_bits_size ack nacks,
    )
