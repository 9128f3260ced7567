-- What was written is read again, and sizes.
use Rattle.std.proofs.Common.{◌≡◌, inl, inr, ℕ, ◌+◌, ◌-◌, ◌*◌, ◌/◌, ◌<◌, Bool, true, false, cond, List, [], ◌∷◌, ◌++◌}
use Rattle.std.proofs.Common.{length, take, drop, Option, Some, None, Result, Ok, refl, sym, ap, ◌∙◌, arith, eqb}
use Rattle.std.specs.List.{sum}
use Rattle.std.proofs.lemmas.List.{length-append, length-take, length-drop, take-append-drop}
use Rattle.std.proofs.lemmas.List.Sums.{sum_by-cons}
use Rattle.l2_bits.specs.Bits.{bits, filling}
use Rattle.l2_bits.proofs.BitFields.{length-bits}
use Rattle.rlc_pdu.specs.declared.fault.RlcRefusal.{RlcRefusal}
use Rattle.rlc_pdu.specs.declared.pdu.Nack.{Nack}
use Rattle.rlc_pdu.specs.declared.pdu.Segment.{Segment}
use Rattle.rlc_pdu.specs.Units.{units_octets, cut}
use Rattle.rlc_pdu.specs.Pdus.{UmdPdu, AmdPdu, StatusPdu, AcknowledgedPdu, Status, IsUmBits, AreLens, but_last}
use Rattle.rlc_pdu.specs.Grammar.{IsUmdPdu, IsAmdPdu, umd_reserved, umd_header, amd_header, has_segment, has_units}
use Rattle.rlc_pdu.specs.Status.{status_bits, IsStatusPdu, nacks_size}
use Rattle.rlc_pdu.specs.Reading.{umd_at, amd_at, am_at}
use Rattle.rlc_pdu.specs.Writing.{umd_canonical, amd_canonical, header_len}
use Rattle.rlc_pdu.specs.Laws.{UmdAgain, AmdAgain, StatusAgain, AreCutAgain, CutAgain, DataSizes, ranges, StatusSizes}
use Rattle.rlc_pdu.proofs.Umds.{umd_accepts}
use Rattle.rlc_pdu.proofs.Amds.{amd_accepts}
use Rattle.rlc_pdu.proofs.AmPdus.{am_accepts, as_payload_of}

umd_is : (x y : UmdPdu) (r : Result UmdPdu RlcRefusal) → r ≡ Ok x → r ≡ Ok y → x ≡ y
umd_is x y r e f = let same : Ok x ≡ Ok y = sym e ∙ f in cc

amd_is : (x y : AmdPdu) (r : Result AmdPdu RlcRefusal) → r ≡ Ok x → r ≡ Ok y → x ≡ y
amd_is x y r e f = let same : Ok x ≡ Ok y = sym e ∙ f in cc

am_is : (x y : AcknowledgedPdu) (r : Result AcknowledgedPdu RlcRefusal) → r ≡ Ok x → r ≡ Ok y → x ≡ y
am_is x y r e f = let same : Ok x ≡ Ok y = sym e ∙ f in cc

none_reserved : (bits : ℕ) → IsUmBits bits → 0 < umd_reserved bits
none_reserved bits (inl e) = rw e (omega arith)
none_reserved bits (inr e) = rw e (omega arith)

pub umd_again : UmdAgain
umd_again bits pdu width h =
    let accepted : IsUmdPdu bits pdu (umd_canonical bits pdu) = record {
      reserved = 0;
      padding = 0;
      few = none_reserved bits width;
      four_bits = omega arith;
      number = h.number;
      framing = h.framing;
      lens = h.lens;
      spelled = refl;
    } in
    let read = umd_accepts bits pdu (umd_canonical bits pdu) width accepted in
    record {
      accepted = accepted;
      only = λ other o. umd_is other pdu (umd_at bits (umd_canonical bits pdu))
          (umd_accepts bits other (umd_canonical bits pdu) width o) read;
      read = read;
    }

pub amd_again : AmdAgain
amd_again pdu h =
    let accepted : IsAmdPdu pdu (amd_canonical pdu) = record {
      padding = 0;
      four_bits = omega arith;
      number = h.number;
      framing = h.framing;
      segment = h.segment;
      lens = h.lens;
      spelled = refl;
    } in
    record {
      accepted = accepted;
      only = λ other o. amd_is other pdu (amd_at (amd_canonical pdu)) (amd_accepts other (amd_canonical pdu) o)
          (amd_accepts pdu (amd_canonical pdu) accepted);
      read = as_payload_of pdu (amd_canonical pdu) accepted;
    }

status_is : (x y : StatusPdu) → Status x ≡ Status y → x ≡ y
status_is x y e = cc

pub status_again : StatusAgain
status_again pdu octets fits number nacks e =
    let n = length (status_bits pdu.ack pdu.nacks) in
    let accepted : IsStatusPdu pdu octets = record {
      free = bits (filling n) 0;
      few = omega (arith, length-bits (filling n) 0);
      number = number;
      nacks = nacks;
      spelled = e;
    } in
    let read = am_accepts (Status pdu) octets fits accepted in
    record {
      accepted = accepted;
      only =
          λ other o. status_is other pdu
          (am_is (Status other) (Status pdu) (am_at octets) (am_accepts (Status other) octets fits o) read);
      read = read;
    }

-- ---- lengths that add up to a field

cut_lens : (lens field : List ℕ) → AreLens lens → sum lens ≡ length field → AreCutAgain lens field
unfolding cut
cut_lens [] field h e = absurd h
cut_lens (n ∷ []) field h e =
    let same : n ≡ length field = omega (arith, e, sum_by-cons (λ (k : ℕ). k) n []) in
    record { lens_are = rw same refl; field_is = nil field }
  where
    nil : (xs : List ℕ) → xs ++ [] ≡ xs
    nil [] = refl
    nil (x ∷ xs) = ap (λ (ys : List ℕ). x ∷ ys) (nil xs)
cut_lens (n ∷ m ∷ ns) field h e =
    let total = sum_by-cons (λ (k : ℕ). k) n (m ∷ ns) in
    let front : length (take n field) ≡ n = omega (arith, e, total, length-take n field) in
    let rest = cut_lens (m ∷ ns) (drop n field) h.2 (omega (arith, e, total, length-drop n field)) in
    record {
      lens_are = rw (front, rest.lens_are) refl;
      field_is = ap (λ (ys : List ℕ). take n field ++ ys) rest.field_is ∙ take-append-drop n field;
    }

pub cut_again : CutAgain
cut_again lens field h e = cut_lens lens field h e

-- ---- sizes

length_units : (lis : List ℕ) → length (units_octets 0 lis) ≡ (12 * length lis + 7) / 8
length_units [] = refl
length_units (x ∷ []) = refl
length_units (x ∷ y ∷ lis) = omega (arith, length_units lis)

length_lis : (lens : List ℕ) → AreLens lens → length (but_last lens) ≡ length lens - 1
length_lis [] h = absurd h
length_lis (n ∷ []) h = refl
length_lis (n ∷ m ∷ ns) h = omega (arith, length_lis (m ∷ ns) h.2)

length_umd : (bits more sn fi : ℕ) (b : Bool) → eqb bits 5 ≡ b → length (umd_header bits 0 fi more sn) ≡ cond b 1 2
length_umd bits more sn fi true e = rw e refl
length_umd bits more sn fi false e = rw e refl

length_amd : (poll : Bool) (fi more sn : ℕ) (segment : Option Segment)
    → length (amd_header poll fi segment more sn) ≡ 2 + 2 * has_segment segment
length_amd poll fi more sn None = refl
length_amd poll fi more sn (Some s) = refl

sized : (header lens field : List ℕ) (fixed : ℕ) → AreLens lens → length header ≡ fixed
    → length (header ++ (units_octets 0 (but_last lens) ++ field)) ≡ header_len fixed (length lens) + length field
sized header lens field fixed h e =
    omega (
      arith,
      e,
      length-append header (units_octets 0 (but_last lens) ++ field),
      length-append (units_octets 0 (but_last lens)) field,
      length_units (but_last lens),
      length_lis lens h,
    )

pub sizes : DataSizes
sizes lens field h = record {
  umd = λ bits sn fi. sized (umd_header bits 0 fi (has_units lens) sn) lens field (cond (eqb bits 5) 1 2) h
      (length_umd bits (has_units lens) sn fi (eqb bits 5) refl);
  amd = λ sn poll fi segment. sized (amd_header poll fi segment (has_units lens) sn) lens field
      (2 + 2 * has_segment segment) h (length_amd poll fi (has_units lens) sn segment);
}

size_of : (ns : List Nack) → nacks_size ns ≡ 12 * length ns + 30 * ranges ns
size_of [] = refl
size_of (n ∷ ns) = omega (arith, size_of ns)

pub entry_sizes : StatusSizes
entry_sizes ns = omega (arith, size_of ns)
