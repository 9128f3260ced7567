-- A data PDU is the canonical writing of what is read of it exactly where its reserved bits and what fills its units
-- are 0.
use Rattle.std.proofs.Common.{◌≡◌, ℕ, suc, ◌+◌, ◌-◌, ◌*◌, ◌/◌, ◌%◌, ◌<◌, ◌≤◌, ◌==◌, Bool, true, false, ◌&&◌}
use Rattle.std.proofs.Common.{List, [], ◌∷◌, ◌++◌, length, map, refl, ap, sym, ◌∙◌, subst, arith}
use Rattle.std.proofs.Common.{length-append, take, drop, ◌^◌, Option, Some, None, inl, inr}
use Rattle.std.specs.Prelude.{slice_index}
use Rattle.std.specs.List.{sum, concat}
use Rattle.std.specs.Cmp.Lexicographic.{pointwise}
use Rattle.std.specs.Str.{bytes_eq}
use Rattle.std.proofs.Math.Seq.{drop-append_seam}
use Rattle.std.proofs.lemmas.Bool.{cases_eq, or_left, or_right, or_cases, eq-eqb, eqb-true}
use Rattle.std.proofs.lemmas.List.{get_or-append-add, length-map, take_all, append_cancel_left}
use Rattle.std.proofs.lemmas.List.Sums.{sum_by-cons}
use Rattle.std.proofs.lemmas.Nat.{shr_high, mod_low}
use Rattle.std.proofs.lemmas.Slice.Eq.{bytes_eq-Decides}
use Rattle.l2_bits.specs.Bits.{bits, bits_of, number, filling}
use Rattle.l2_bits.proofs.BitFields.{length-bits, length-bits_of, number-bits, number-lt, fold-from}
use Rattle.rlc_pdu.specs.declared.pdu.Segment.{Segment}
use Rattle.rlc_pdu.specs.Pdus.{UmdPdu, AmdPdu, StatusPdu, AreLens, IsUmBits, but_last}
use Rattle.rlc_pdu.specs.Units.{pair_octets, units_octets, follows}
use Rattle.rlc_pdu.specs.Grammar.{IsUmdPdu, IsAmdPdu, amd_header, umd_header, body_octets, has_units, has_segment}
use Rattle.rlc_pdu.specs.Status.{IsStatusPdu, status_bits, nacks_size}
use Rattle.rlc_pdu.specs.Writing.{umd_canonical, amd_canonical, status_written}
use Rattle.rlc_pdu.proofs.Statuses.{length_status}
use Rattle.pdcp_pdu.specs.declared.pdu.PdcpKind.{PdcpKind}
use Rattle.promises.specs.Names.{whole_sdus}
use Rattle.journal_form.specs.Tests.{is_filled, is_clear, umd_size, ends_clear, same_bit, are_pdcp}
use Rattle.journal_form.specs.Tests.{is_amd_written, is_umd_written, is_status_written}
use Rattle.journal_form.proofs.Lists.{agree, lens_whole, bits_are}

-- ---- units

units_length : (padding : ℕ) (lis : List ℕ) → length (units_octets padding lis) ≡ (3 * length lis + 1) / 2
units_length padding [] = refl
units_length padding (x ∷ []) = refl
units_length padding (x ∷ y ∷ lis) = omega (arith, units_length padding lis)

same_even : (p q : ℕ) (lis : List ℕ) → length lis % 2 ≡ 0 → units_octets p lis ≡ units_octets q lis
same_even p q [] h = refl
same_even p q (x ∷ []) h = absurd (omega (arith, h))
same_even p q (x ∷ y ∷ lis) h =
    ap (λ (os : List ℕ). pair_octets x y (follows lis) ++ os) (same_even p q lis (omega (arith, h)))

abbrev filler : ℕ → List ℕ → List ℕ → ℕ
filler padding lis field = slice_index (units_octets padding lis ++ field) (length lis / 2 * 3 + 1)

filler_is : (padding : ℕ) (lis field : List ℕ) → length lis % 2 ≡ 1 → filler padding lis field % 16 ≡ padding % 16
filler_is padding [] field h = absurd (omega (arith, h))
filler_is padding (x ∷ []) field h = omega arith
filler_is padding (x ∷ y ∷ lis) field h =
    let behind : length (x ∷ y ∷ lis) / 2 * 3 + 1 ≡ suc (suc (suc (length lis / 2 * 3 + 1))) = omega arith in
    ap (λ (i : ℕ). slice_index (units_octets padding (x ∷ y ∷ lis) ++ field) i % 16) behind
    ∙ filler_is padding lis field (omega (arith, h))

-- ---- what stands behind a header

but_last_length : (lens : List ℕ) → AreLens lens → length (but_last lens) + 1 ≡ length lens
but_last_length [] h = absurd h
but_last_length (n ∷ []) h = refl
but_last_length (n ∷ m ∷ lens) h = omega (arith, but_last_length (m ∷ lens) h.2)

abbrev pdu_of : List ℕ → ℕ → List ℕ → List ℕ → List ℕ
pdu_of header padding lens field = header ++ body_octets padding lens field

filler_at : (header : List ℕ) (padding : ℕ) (lens field : List ℕ) → AreLens lens
    → slice_index (pdu_of header padding lens field) (length header + (length lens - 1) / 2 * 3 + 1)
    ≡ filler padding (but_last lens) field
filler_at header padding lens field h =
    let n : length (but_last lens) + 1 ≡ length lens = but_last_length lens h in
    let place : length header + (length lens - 1) / 2 * 3 + 1
    ≡ length header + (length (but_last lens) / 2 * 3 + 1) = omega (arith, n) in
    ap (slice_index (pdu_of header padding lens field)) place
    ∙ get_or-append-add header (body_octets padding lens field) (length (but_last lens) / 2 * 3 + 1) 0

-- ---- behind a header that is the same

same_filled : (header : List ℕ) (padding : ℕ) (lens field : List ℕ) → AreLens lens
    → pdu_of header 0 lens field ≡ pdu_of header padding lens field
    → is_filled (pdu_of header padding lens field) (length header) (length lens) ≡ true
same_filled header padding lens field h same =
    let octets = pdu_of header padding lens field in
    let place = length header + (length lens - 1) / 2 * 3 + 1 in
    elim (cases_eq ((length lens - 1) % 2) 0) as (λ w. is_filled octets (length header) (length lens) ≡ true) [
      | inl even ↦ or_left ((length lens - 1) % 2 == 0) _ (eq-eqb ((length lens - 1) % 2) 0 even)
      | inr odd ↦
          or_right ((length lens - 1) % 2 == 0) _
          (eq-eqb (slice_index octets place % 16) 0
          (ap (λ (os : List ℕ). slice_index os place % 16) (sym same)
          ∙ ap (λ (k : ℕ). k % 16) (filler_at header 0 lens field h)
          ∙ filler_is 0 (but_last lens) field (omega (arith, odd, but_last_length lens h))))
    ]

filled_same : (header : List ℕ) (padding : ℕ) (lens field : List ℕ) → padding < 16 → AreLens lens
    → is_filled (pdu_of header padding lens field) (length header) (length lens) ≡ true
    → pdu_of header 0 lens field ≡ pdu_of header padding lens field
filled_same header padding lens field few h filled =
    let octets = pdu_of header padding lens field in
    let place = length header + (length lens - 1) / 2 * 3 + 1 in
    let even_test = (length lens - 1) % 2 == 0 in
    let zero_test = slice_index octets place % 16 == 0 in
    elim (cases_eq ((length lens - 1) % 2) 0) as (λ w. pdu_of header 0 lens field ≡ octets) [
      | inl even ↦
          ap (λ (os : List ℕ). header ++ (os ++ field))
          (same_even 0 padding (but_last lens) (omega (arith, even, but_last_length lens h)))
      | inr odd ↦
          let is_zero : zero_test ≡ true =
          elim (or_cases even_test zero_test filled) as (λ w. zero_test ≡ true) [
            | inl e ↦ absurd (odd (eqb-true ((length lens - 1) % 2) 0 e))
            | inr e ↦ e
          ] in
          let padding_is : padding % 16 ≡ 0 =
          sym (filler_is padding (but_last lens) field (omega (arith, odd, but_last_length lens h)))
          ∙ ap (λ (k : ℕ). k % 16) (sym (filler_at header padding lens field h))
          ∙ eqb-true (slice_index octets place % 16) 0 is_zero in
          let none : padding ≡ 0 = omega (arith, padding_is, few) in
          ap (λ (k : ℕ). pdu_of header k lens field) (sym none)
    ]

header_filled : (header : List ℕ) (padding : ℕ) (lens field : List ℕ) → padding < 16 → AreLens lens
    → bytes_eq (pdu_of header 0 lens field) (pdu_of header padding lens field)
    ≡ is_filled (pdu_of header padding lens field) (length header) (length lens)
header_filled header padding lens field few h =
    let octets = pdu_of header padding lens field in
    let filled = is_filled octets (length header) (length lens) in
    agree (bytes_eq (pdu_of header 0 lens field) octets) filled (pdu_of header 0 lens field ≡ octets) (filled ≡ true)
    (bytes_eq-Decides (pdu_of header 0 lens field) octets) (λ e. e, λ e. e)
    (same_filled header padding lens field h) (filled_same header padding lens field few h)

-- ---- how many elements there are, and where their units end

least_sum : (lens : List ℕ) → AreLens lens → length lens ≤ sum lens
least_sum [] h = absurd h
least_sum (n ∷ []) h = let one : 1 ≤ n = h in omega (arith, one, sum_by-cons (λ (k : ℕ). k) n [])
least_sum (n ∷ m ∷ lens) h =
    omega (arith, h.0, least_sum (m ∷ lens) h.2, sum_by-cons (λ (k : ℕ). k) n (m ∷ lens))

pdu_length : (header : List ℕ) (padding : ℕ) (lens field : List ℕ) → AreLens lens
    → length (pdu_of header padding lens field)
    ≡ length header + ((3 * (length lens - 1) + 1) / 2 + length field)
pdu_length header padding lens field h =
    let n = but_last_length lens h in
    let behind = length-append header (body_octets padding lens field) in
    let body = length-append (units_octets padding (but_last lens)) field in
    let units = units_length padding (but_last lens) in omega (arith, n, behind, body, units)

-- the octets of a data PDU with so many elements, behind a header of so many octets
pub record HasUnits (octets : List ℕ) (header n : ℕ) : Type 0 where
  pub some : 1 ≤ n
  pub few : n ≤ length octets
  pub within : header + (3 * (n - 1) + 1) / 2 ≤ length octets

has_units_so : (header : List ℕ) (padding : ℕ) (elements : List (List ℕ)) → AreLens (map length elements)
    → HasUnits (pdu_of header padding (map length elements) (concat elements)) (length header) (length elements)
has_units_so header padding elements h =
    let long = pdu_length header padding (map length elements) (concat elements) h in
    let whole = lens_whole elements in
    let count = length-map elements (length {A = ℕ}) in
    let least = least_sum (map length elements) h in
    let behind = but_last_length (map length elements) h in
    record {
      some = omega (arith, count, behind);
      few = omega (arith, long, whole, count, least);
      within = omega (arith, long, count);
    }

-- ---- an AMD PDU, or a segment of one

header_length : (poll : Bool) (fi : ℕ) (segment : Option Segment) (more sn : ℕ)
    → length (amd_header poll fi segment more sn) ≡ 2 + 2 * has_segment segment
header_length poll fi None more sn = refl
header_length poll fi (Some s) more sn = refl

pub amd_units : (pdu : AmdPdu) (octets : List ℕ) → IsAmdPdu pdu octets
    → HasUnits octets (2 + 2 * has_segment pdu.segment) (length pdu.elements)
amd_units pdu octets h =
    let lens = map length pdu.elements in
    let header = amd_header pdu.poll pdu.fi pdu.segment (has_units lens) pdu.sn in
    let size = header_length pdu.poll pdu.fi pdu.segment (has_units lens) pdu.sn in
    subst (λ (os : List ℕ). HasUnits os (2 + 2 * has_segment pdu.segment) (length pdu.elements)) (sym h.spelled)
    (subst (λ (k : ℕ). HasUnits (pdu_of header h.padding lens (concat pdu.elements)) k (length pdu.elements)) size
    (has_units_so header h.padding pdu.elements h.lens))

pub amd_filled : (pdu : AmdPdu) (octets : List ℕ) → IsAmdPdu pdu octets
    → bytes_eq (amd_canonical pdu) octets
    ≡ is_filled octets (2 + 2 * has_segment pdu.segment) (length pdu.elements)
amd_filled pdu octets h =
    let lens = map length pdu.elements in
    let header = amd_header pdu.poll pdu.fi pdu.segment (has_units lens) pdu.sn in
    ap (bytes_eq (amd_canonical pdu)) h.spelled
    ∙ header_filled header h.padding lens (concat pdu.elements) h.four_bits h.lens
    ∙ ap (λ (os : List ℕ). is_filled os (length header) (length lens)) (sym h.spelled)
    ∙ ap (λ (k : ℕ). is_filled octets k (length lens))
    (header_length pdu.poll pdu.fi pdu.segment (has_units lens) pdu.sn)
    ∙ ap (is_filled octets (2 + 2 * has_segment pdu.segment)) (length-map pdu.elements (length {A = ℕ}))

-- as its test is run
pub amd_tested : (kind : PdcpKind) (pdu : AmdPdu) (octets : List ℕ) (size count : ℕ) (filled : Bool)
    → IsAmdPdu pdu octets → size ≡ 2 + 2 * has_segment pdu.segment → count ≡ length pdu.elements
    → filled ≡ is_filled octets size count
    → is_amd_written kind octets pdu ≡ (filled && are_pdcp kind (whole_sdus pdu.fi pdu.elements))
amd_tested kind pdu octets size count filled h wide long is =
    ap (λ (b : Bool). b && are_pdcp kind (whole_sdus pdu.fi pdu.elements))
    (amd_filled pdu octets h ∙ ap (λ (n : ℕ). is_filled octets n (length pdu.elements)) (sym wide)
    ∙ ap (is_filled octets size) (sym long) ∙ sym is)

-- ---- a UMD PDU

umd_length : (bits reserved fi more sn : ℕ) → IsUmBits bits
    → length (umd_header bits reserved fi more sn) ≡ umd_size bits
umd_length bits reserved fi more sn (inl e) = rw e refl
umd_length bits reserved fi more sn (inr e) = rw e refl

pub umd_units : (bits : ℕ) (pdu : UmdPdu) (octets : List ℕ) → IsUmBits bits → IsUmdPdu bits pdu octets
    → HasUnits octets (umd_size bits) (length pdu.elements)
umd_units bits pdu octets wide h =
    let lens = map length pdu.elements in
    let header = umd_header bits h.reserved pdu.fi (has_units lens) pdu.sn in
    let size = umd_length bits h.reserved pdu.fi (has_units lens) pdu.sn wide in
    subst (λ (os : List ℕ). HasUnits os (umd_size bits) (length pdu.elements)) (sym h.spelled)
    (subst (λ (k : ℕ). HasUnits (pdu_of header h.padding lens (concat pdu.elements)) k (length pdu.elements)) size
    (has_units_so header h.padding pdu.elements h.lens))

-- the reserved bits are 0
more_bit : (lens : List ℕ) → follows lens ≤ 1
more_bit [] = omega arith
more_bit (n ∷ lens) = omega arith

same_head : (reserved low : ℕ) → low < 32 → (0 * 32 + low == reserved * 32 + low) ≡ ((reserved * 32 + low) / 32 == 0)
same_head reserved low few =
    agree (0 * 32 + low == reserved * 32 + low) ((reserved * 32 + low) / 32 == 0) (reserved ≡ 0) (reserved ≡ 0) (
      λ e. let same = eqb-true (0 * 32 + low) (reserved * 32 + low) e in omega (arith, same, few),
      λ e. eq-eqb (0 * 32 + low) (reserved * 32 + low) (omega (arith, e)),
    ) (
      λ e. let none = eqb-true ((reserved * 32 + low) / 32) 0 e in omega (arith, none, few),
      λ e. eq-eqb ((reserved * 32 + low) / 32) 0 (omega (arith, e, few)),
    )
    (λ e. e) (λ e. e)

other_head : (x y : ℕ) (a b : List ℕ) → bytes_eq (x ∷ a) (y ∷ b) ≡ ((x == y) && bytes_eq (y ∷ a) (y ∷ b))
other_head x y a b =
    let same : (y == y) ≡ true = eq-eqb y y refl in
    sym (ap (λ (t : Bool). (x == y) && (t && bytes_eq a b)) same)

short_filled : (pdu : UmdPdu) (octets : List ℕ) → IsUmdPdu 5 pdu octets
    → bytes_eq (umd_canonical 5 pdu) octets ≡ (is_clear 5 octets && is_filled octets 1 (length pdu.elements))
short_filled pdu octets h =
    let lens = map length pdu.elements in
    let header = umd_header 5 0 pdu.fi (has_units lens) pdu.sn in
    ap (bytes_eq (umd_canonical 5 pdu)) h.spelled
    ∙ header_filled header h.padding lens (concat pdu.elements) h.four_bits h.lens
    ∙ ap (λ (os : List ℕ). is_filled os 1 (length lens)) (sym h.spelled)
    ∙ ap (is_filled octets 1) (length-map pdu.elements (length {A = ℕ}))

long_filled : (pdu : UmdPdu) (octets : List ℕ) → IsUmdPdu 10 pdu octets
    → bytes_eq (umd_canonical 10 pdu) octets ≡ (is_clear 10 octets && is_filled octets 2 (length pdu.elements))
long_filled pdu octets h =
    let lens = map length pdu.elements in
    let field = concat pdu.elements in
    let more = has_units lens in
    let low = pdu.fi * 8 + more * 4 + pdu.sn / 256 in
    let first = h.reserved * 32 + low in
    let header = umd_header 10 h.reserved pdu.fi more pdu.sn in
    let zero_first : 0 * 32 + pdu.fi * 8 + more * 4 + pdu.sn / 256 ≡ 0 * 32 + low = omega arith in
    let own_first : h.reserved * 32 + pdu.fi * 8 + more * 4 + pdu.sn / 256 ≡ first = omega arith in
    let bit = more_bit (but_last lens) in
    let small : low < 32 = omega (arith, h.number, h.framing, bit) in
    let behind = (pdu.sn % 256) ∷ body_octets 0 lens field in
    let own_behind = (pdu.sn % 256) ∷ body_octets h.padding lens field in
    let filled = ap (λ (k : ℕ). bytes_eq (k ∷ behind) (k ∷ own_behind)) (sym own_first)
    ∙ header_filled header h.padding lens field h.four_bits h.lens
    ∙ ap (λ (os : List ℕ). is_filled os 2 (length lens)) (sym h.spelled)
    ∙ ap (is_filled octets 2) (length-map pdu.elements (length {A = ℕ})) in
    ap (bytes_eq (umd_canonical 10 pdu)) h.spelled
    ∙ ap (λ (k : ℕ). bytes_eq (k ∷ behind) ((h.reserved * 32 + pdu.fi * 8 + more * 4 + pdu.sn / 256) ∷ own_behind))
    zero_first
    ∙ ap (λ (k : ℕ). bytes_eq ((0 * 32 + low) ∷ behind) (k ∷ own_behind)) own_first
    ∙ other_head (0 * 32 + low) first behind own_behind
    ∙ ap (λ (t : Bool). t && bytes_eq (first ∷ behind) (first ∷ own_behind)) (same_head h.reserved low small)
    ∙ ap (λ (t : Bool). (first / 32 == 0) && t) filled
    ∙ ap (λ (k : ℕ). (k / 32 == 0) && is_filled octets 2 (length pdu.elements))
    (sym (ap (λ (os : List ℕ). slice_index os 0) h.spelled ∙ own_first))

pub umd_filled : (bits : ℕ) (pdu : UmdPdu) (octets : List ℕ) → IsUmBits bits → IsUmdPdu bits pdu octets
    → bytes_eq (umd_canonical bits pdu) octets
    ≡ (is_clear bits octets && is_filled octets (umd_size bits) (length pdu.elements))
umd_filled bits pdu octets (inl e) h =
    subst (λ (b : ℕ). IsUmdPdu b pdu octets → bytes_eq (umd_canonical b pdu) octets
    ≡ (is_clear b octets && is_filled octets (umd_size b) (length pdu.elements))) (sym e) (short_filled pdu octets) h
umd_filled bits pdu octets (inr e) h =
    subst (λ (b : ℕ). IsUmdPdu b pdu octets → bytes_eq (umd_canonical b pdu) octets
    ≡ (is_clear b octets && is_filled octets (umd_size b) (length pdu.elements))) (sym e) (long_filled pdu octets) h

pub umd_tested : (kind : PdcpKind) (bits : ℕ) (pdu : UmdPdu) (octets : List ℕ) (count : ℕ) (filled : Bool)
    → IsUmBits bits → IsUmdPdu bits pdu octets → count ≡ length pdu.elements
    → filled ≡ (is_clear bits octets && is_filled octets (umd_size bits) count)
    → is_umd_written kind bits octets pdu ≡ (filled && are_pdcp kind (whole_sdus pdu.fi pdu.elements))
umd_tested kind bits pdu octets count filled wide h long is =
    ap (λ (b : Bool). b && are_pdcp kind (whole_sdus pdu.fi pdu.elements))
    (umd_filled bits pdu octets wide h
    ∙ ap (λ (n : ℕ). is_clear bits octets && is_filled octets (umd_size bits) n) (sym long) ∙ sym is)

-- ---- a STATUS

zeros : (xs : List Bool) → number xs ≡ 0 → xs ≡ bits (length xs) 0
unfolding bits
zeros [] h = refl
zeros (true ∷ xs) h = absurd (omega (arith, number-lt xs, fold-from xs 1, h))
zeros (false ∷ xs) h =
    let n = length xs in
    let none : number xs ≡ 0 = omega (arith, fold-from xs 0, h) in
    let small : 0 < 2 ^ n = omega (arith, number-lt xs) in
    let zero : 0 * 2 ^ n + 0 ≡ 0 = omega arith in
    let high : 0 / 2 ^ n ≡ 0 = ap (λ (m : ℕ). m / 2 ^ n) (sym zero) ∙ shr_high 0 n 0 small in
    ap (λ (ys : List Bool). false ∷ ys) (zeros xs none) ∙ ap (λ (m : ℕ). (m % 2 == 1) ∷ bits n 0) (sym high)

none_written : (n : ℕ) → number (bits n 0) ≡ 0
none_written n =
    let small : 0 < 2 ^ n = omega (arith, number-lt (bits n 0), ap (λ (k : ℕ). 2 ^ k) (length-bits n 0)) in
    let zero : 0 * 2 ^ n + 0 ≡ 0 = omega arith in
    number-bits n 0 ∙ ap (λ (m : ℕ). m % 2 ^ n) (sym zero) ∙ mod_low 0 n 0 small

behind_status : (pdu : StatusPdu) (octets : List ℕ) (h : IsStatusPdu pdu octets)
    → drop (15 + nacks_size pdu.nacks) (bits_of octets) ≡ h.free
behind_status pdu octets h =
    ap (drop (15 + nacks_size pdu.nacks)) h.spelled
    ∙ ap (λ (n : ℕ). drop n (status_bits pdu.ack pdu.nacks ++ h.free)) (sym (length_status pdu.ack pdu.nacks))
    ∙ drop-append_seam (status_bits pdu.ack pdu.nacks) h.free

-- so many bits come before those that fill the last octet
pub record HasFiller (octets : List ℕ) (n : ℕ) : Type 0 where
  pub within : n ≤ 8 * length octets
  pub few : 8 * length octets < n + 8
  pub all : take (8 * length octets - n) (drop n (bits_of octets)) ≡ drop n (bits_of octets)

status_length : (pdu : StatusPdu) (octets : List ℕ) (h : IsStatusPdu pdu octets)
    → 8 * length octets ≡ 15 + nacks_size pdu.nacks + length h.free
status_length pdu octets h =
    sym (length-bits_of octets) ∙ ap (length {A = Bool}) h.spelled
    ∙ length-append (status_bits pdu.ack pdu.nacks) h.free
    ∙ ap (λ (n : ℕ). n + length h.free) (length_status pdu.ack pdu.nacks)

pub status_filler : (pdu : StatusPdu) (octets : List ℕ) → IsStatusPdu pdu octets
    → HasFiller octets (15 + nacks_size pdu.nacks)
status_filler pdu octets h =
    let n = 15 + nacks_size pdu.nacks in
    let long = status_length pdu octets h in
    let free = ap (length {A = Bool}) (behind_status pdu octets h) in
    record {
      within = omega (arith, long);
      few = omega (arith, long, h.few);
      all = take_all (8 * length octets - n) (drop n (bits_of octets)) (omega (arith, long, free));
    }

pub status_filled : (pdu : StatusPdu) (octets : List ℕ) → IsStatusPdu pdu octets
    → is_status_written octets pdu ≡ ends_clear octets (15 + nacks_size pdu.nacks)
status_filled pdu octets h =
    let fields = status_bits pdu.ack pdu.nacks in
    let written = status_written pdu.ack pdu.nacks in
    let free = behind_status pdu octets h in
    let size : filling (length fields) ≡ length h.free =
    omega (arith, status_length pdu octets h, length_status pdu.ack pdu.nacks, h.few) in
    agree (pointwise same_bit written (bits_of octets)) (ends_clear octets (15 + nacks_size pdu.nacks))
    (written ≡ bits_of octets) (number h.free ≡ 0) (bits_are written (bits_of octets)) (
      λ e. sym (ap number free) ∙ eqb-true (number (drop (15 + nacks_size pdu.nacks) (bits_of octets))) 0 e,
      λ e. eq-eqb (number (drop (15 + nacks_size pdu.nacks) (bits_of octets))) 0 (ap number free ∙ e),
    )
    (λ e. ap number (sym (append_cancel_left fields (bits (filling (length fields)) 0) h.free (e ∙ h.spelled)))
    ∙ none_written (filling (length fields)))
    (λ e. ap (λ (bs : List Bool). fields ++ bs) (ap (λ (n : ℕ). bits n 0) size ∙ sym (zeros h.free e)) ∙ sym h.spelled)

-- as its test is run: the number of the bits that fill the last octet is 0
pub status_tested : (pdu : StatusPdu) (octets : List ℕ) (used field : ℕ) → IsStatusPdu pdu octets
    → used ≡ 15 + nacks_size pdu.nacks
    → field ≡ number (take (8 * length octets - used) (drop used (bits_of octets)))
    → is_status_written octets pdu ≡ (field == 0)
status_tested pdu octets used field h long is =
    status_filled pdu octets h ∙ ap (λ (bs : List Bool). number bs == 0) (sym (status_filler pdu octets h).all)
    ∙ ap (λ (n : ℕ). number (take (8 * length octets - n) (drop n (bits_of octets))) == 0) (sym long)
    ∙ ap (λ (n : ℕ). n == 0) (sym is)
