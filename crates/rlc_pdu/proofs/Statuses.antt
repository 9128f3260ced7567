-- STATUS PDUs: in the grammar is read, and read is in the grammar.
use Rattle.std.proofs.Common.{◌≡◌, ℕ, ◌+◌, ◌*◌, ◌/◌, ◌%◌, ◌<◌, ◌^◌, Bool, true, false, List, [], ◌∷◌, ◌++◌, length}
use Rattle.std.proofs.Common.{take, drop, Option, Some, None, Ok, refl, sym, ap, ◌∙◌, arith, eqb, append_assoc}
use Rattle.std.specs.Prelude.{All}
use Rattle.std.proofs.lemmas.Bool.{le-ltb}
use Rattle.std.proofs.lemmas.List.{length-append, take_at, drop_at}
use Rattle.std.proofs.lemmas.List.Elements.{All-head, All-tail}
use Rattle.l2_bits.specs.Bits.{bits, bits_of, number, digit}
use Rattle.l2_bits.proofs.BitFields.{field_again, length-bits, length-bits_of, number-bits}
use Rattle.rlc_pdu.specs.declared.pdu.Part.{Part}
use Rattle.rlc_pdu.specs.declared.pdu.Nack.{Nack}
use Rattle.rlc_pdu.specs.Pdus.{StatusPdu, IsNack, IsPart}
use Rattle.rlc_pdu.specs.Status.{has_more, has_part, part_bits, nack_bits, nacks_bits, status_bits, IsStatusPdu}
use Rattle.rlc_pdu.specs.Status.{nack_size, nacks_size, status_size}
use Rattle.rlc_pdu.specs.Entries.{part_at, nack_at, with_nack, entries, ack_at, listed, is_backwards, backwards_from}
use Rattle.rlc_pdu.specs.Refusals.{listed_refusal}
use Rattle.rlc_pdu.specs.Reading.{control_at}
use Rattle.rlc_pdu.proofs.EntrySteps.{entries_next}
use Rattle.rlc_pdu.proofs.Amds.{digit_bit, digit_test}

-- ---- in the grammar, so read

flag : Option Part → Bool
flag None = false
flag (Some p) = true

part_again : (p : Option Part) (rest : List Bool) → IsPart p → part_at (flag p) (part_bits p ++ rest) ≡ Some (p, rest)
unfolding part_at flag
part_again None rest h = refl
part_again (Some p) rest h =
    let e : (bits 15 p.start ++ bits 15 p.end) ++ rest ≡ bits 15 p.start ++ (bits 15 p.end ++ rest) =
    append_assoc (bits 15 p.start) (bits 15 p.end) rest in
    let fits : p.start < 2 ^ 15 = omega (arith, h.0, h.1) in
    ap (part_at true) e ∙ rw (field_again 15 p.start (bits 15 p.end ++ rest) fits, field_again 15 p.end rest h.1) refl

part_digit : (p : Option Part) → has_part p < 2
part_digit None = omega arith
part_digit (Some p) = omega arith

flag_is : (p : Option Part) → eqb (has_part p) 1 ≡ flag p
unfolding flag
flag_is None = refl
flag_is (Some p) = refl

nack_again : (n : Nack) (more : Bool) (rest : List Bool) → IsNack n
    → nack_at (nack_bits n more ++ rest) ≡ Some ((n, more), rest)
unfolding nack_at
nack_again n more rest h =
    let regrouped : nack_bits n more ++ rest ≡ bits 10 n.sn
    ++ (bits 1 (digit more) ++ (bits 1 (has_part n.part) ++ (part_bits n.part ++ rest))) = simp append_assoc in
    ap nack_at regrouped
    ∙ rw (
      field_again 10 n.sn (bits 1 (digit more) ++ (bits 1 (has_part n.part) ++ (part_bits n.part ++ rest))) h.number,
      field_again 1 (digit more) (bits 1 (has_part n.part) ++ (part_bits n.part ++ rest)) (digit_bit more),
      field_again 1 (has_part n.part) (part_bits n.part ++ rest) (part_digit n.part),
      flag_is n.part,
      part_again n.part rest h.part,
      digit_test more,
    ) refl

nacks_again : (ns : List Nack) (rest : List Bool) → All IsNack ns
    → entries 0 (has_more ns) (nacks_bits ns ++ rest) ≡ Some (ns, rest)
unfolding entries
nacks_again [] rest h = refl
nacks_again (n ∷ ns) rest h =
    let one = nack_again n (has_more ns) (nacks_bits ns ++ rest) (All-head IsNack n ns h) in
    let e = append_assoc (nack_bits n (has_more ns)) (nacks_bits ns) rest in
    let later = nacks_again ns rest (All-tail IsNack n ns h) in
    ap (entries 0 true) e
    ∙ (entries_next (nack_bits n (has_more ns) ++ (nacks_bits ns ++ rest)) (nacks_bits ns ++ rest) n (has_more ns)
    one ∙ ap (with_nack n) later)

ack_again : (ack : ℕ) (more : Bool) (rest : List Bool) → ack < 2 ^ 10
    → ack_at (bits 10 ack ++ (bits 1 (digit more) ++ rest)) ≡ Some ((ack, more), rest)
unfolding ack_at
ack_again ack more rest h =
    rw (
      field_again 10 ack (bits 1 (digit more) ++ rest) h,
      field_again 1 (digit more) rest (digit_bit more),
      digit_test more,
    ) refl

not_backwards : (p : Option Part) → IsPart p → is_backwards p ≡ false
not_backwards None h = refl
not_backwards (Some p) h = le-ltb p.end p.start h.0

no_backwards : (at : ℕ) (ns : List Nack) → All IsNack ns → backwards_from at ns ≡ None
unfolding backwards_from
no_backwards at [] h = refl
no_backwards at (n ∷ ns) h =
    let i : IsNack n = All-head IsNack n ns h in
    rw (not_backwards n.part i.part) (no_backwards (at + nack_size n) ns (All-tail IsNack n ns h))

length_part : (p : Option Part) → length (part_bits p) ≡ 30 * has_part p
length_part None = refl
length_part (Some p) =
    omega (arith, length-append (bits 15 p.start) (bits 15 p.end), length-bits 15 p.start, length-bits 15 p.end)

pub length_nack : (n : Nack) (more : Bool) → length (nack_bits n more) ≡ nack_size n
length_nack n more =
    omega (
      arith,
      length_part n.part,
      length-bits 10 n.sn,
      length-bits 1 (digit more),
      length-bits 1 (has_part n.part),
      length-append (bits 10 n.sn) (bits 1 (digit more) ++ (bits 1 (has_part n.part) ++ part_bits n.part)),
      length-append (bits 1 (digit more)) (bits 1 (has_part n.part) ++ part_bits n.part),
      length-append (bits 1 (has_part n.part)) (part_bits n.part),
    )

pub length_nacks : (ns : List Nack) → length (nacks_bits ns) ≡ nacks_size ns
length_nacks [] = refl
length_nacks (n ∷ ns) =
    omega (
      arith,
      length_nack n (has_more ns),
      length_nacks ns,
      length-append (nack_bits n (has_more ns)) (nacks_bits ns),
    )

pub length_status : (ack : ℕ) (ns : List Nack) → length (status_bits ack ns) ≡ 15 + nacks_size ns
length_status ack ns =
    omega (
      arith,
      length_nacks ns,
      length-bits 4 0,
      length-bits 10 ack,
      length-bits 1 (digit (has_more ns)),
      length-append (bits 4 0) (bits 10 ack ++ (bits 1 (digit (has_more ns)) ++ nacks_bits ns)),
      length-append (bits 10 ack) (bits 1 (digit (has_more ns)) ++ nacks_bits ns),
      length-append (bits 1 (digit (has_more ns))) (nacks_bits ns),
    )

listed_again : (octets : List ℕ) (s : StatusPdu) → IsStatusPdu s octets → listed octets ≡ Some s
listed_again octets s h =
    let ns = s.nacks in
    let behind : List Bool = bits 10 s.ack ++ (bits 1 (digit (has_more ns)) ++ (nacks_bits ns ++ h.free)) in
    let regrouped : status_bits s.ack ns ++ h.free ≡ bits 4 0 ++ behind = simp append_assoc in
    let front : drop 4 (bits_of octets) ≡ behind = ap (drop 4) (h.spelled ∙ regrouped)
    ∙ drop_at (bits 4 0) behind 4 (length-bits 4 0) in
    rw (front, ack_again s.ack (has_more ns) (nacks_bits ns ++ h.free) h.number, nacks_again ns h.free h.nacks) refl

pub size_again : (octets : List ℕ) (s : StatusPdu) → IsStatusPdu s octets → length octets ≡ status_size s.nacks
size_again octets s h =
    omega (
      arith,
      ap length h.spelled,
      length-bits_of octets,
      length-append (status_bits s.ack s.nacks) h.free,
      length_status s.ack s.nacks,
      h.few,
    )

no_refusal : (total : ℕ) (s : StatusPdu) → All IsNack s.nacks → total ≡ status_size s.nacks
    → listed_refusal total (Some s) ≡ None
no_refusal total s h e = rw (no_backwards 15 s.nacks h, le-ltb (status_size s.nacks) total (omega (arith, e))) refl

-- the first four bits are those of the first octet
pub nibble : (a : ℕ) (rest : List ℕ) → take 4 (bits_of (a ∷ rest)) ≡ bits 4 (a / 16)
unfolding bits
nibble a rest =
    let e7 : a / 2 ^ 7 % 2 ≡ a / 16 / 2 ^ 3 % 2 = omega arith in
    let e6 : a / 2 ^ 6 % 2 ≡ a / 16 / 2 ^ 2 % 2 = omega arith in
    let e5 : a / 2 ^ 5 % 2 ≡ a / 16 / 2 ^ 1 % 2 = omega arith in
    let e4 : a / 2 ^ 4 % 2 ≡ a / 16 / 2 ^ 0 % 2 = omega arith in
    rw (e7, e6, e5, e4) refl

control_bits : (a : ℕ) (rest : List ℕ) (s : StatusPdu) → a < 256 → IsStatusPdu s (a ∷ rest) → a / 16 ≡ 0
control_bits a rest s la h =
    let ns = s.nacks in
    let behind : List Bool = bits 10 s.ack ++ (bits 1 (digit (has_more ns)) ++ (nacks_bits ns ++ h.free)) in
    let regrouped : status_bits s.ack ns ++ h.free ≡ bits 4 0 ++ behind = simp append_assoc in
    let front : take 4 (bits_of (a ∷ rest)) ≡ bits 4 0 =
    ap (take 4) (h.spelled ∙ regrouped) ∙ take_at (bits 4 0) behind 4 (length-bits 4 0) in
    let same : bits 4 (a / 16) ≡ bits 4 0 = sym (nibble a rest) ∙ front in
    let values : number (bits 4 (a / 16)) ≡ number (bits 4 0) = ap number same in
    omega (arith, la, values, number-bits 4 (a / 16), number-bits 4 0)

pub control_accepts : (a : ℕ) (rest : List ℕ) (s : StatusPdu) → a < 256 → IsStatusPdu s (a ∷ rest)
    → (a / 16 ≡ 0) × (control_at a (a ∷ rest) ≡ Ok s)
control_accepts a rest s la h =
    let z = control_bits a rest s la h in
    (z, rw (z, listed_again (a ∷ rest) s h, no_refusal (length (a ∷ rest)) s h.nacks (size_again (a ∷ rest) s h)) refl)

pub status_some : (s : StatusPdu) → IsStatusPdu s [] → ⊥
status_some s h =
    omega (arith, ap length h.spelled, length-append (status_bits s.ack s.nacks) h.free, length_status s.ack s.nacks)
