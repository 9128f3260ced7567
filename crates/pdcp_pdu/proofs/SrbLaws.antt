-- A PDU of a signalling bearer: what the grammar has is read, and what is read is in it.
use Rattle.std.proofs.Common.{◌≡◌, ℕ, suc, ◌+◌, ◌-◌, ◌*◌, ◌/◌, ◌%◌, ◌<◌, ◌≤◌, Bool, true, false, cond, List, [], ◌∷◌}
use Rattle.std.proofs.Common.{◌++◌, length, take, drop, refl, sym, ap, arith, ◌∙◌, subst, Option, None, Some, Result}
use Rattle.std.proofs.Common.{Ok}
use Rattle.std.specs.Prelude.{◌==◌, nat_lt, slice_index, IfOk, MatchResult}
use Rattle.std.proofs.lemmas.Bool.{le-ltb, ne_eqb, ltb-false, eqb-false}
use Rattle.std.proofs.lemmas.List.{length-append, length-take-le, length-drop, take_at, drop_at, take-append-drop}
use Rattle.pdcp_pdu.specs.declared.pdu.PdcpRefusal.{PdcpRefusal}
use Rattle.pdcp_pdu.specs.declared.pdu.PdcpWhy.TheVariants.{Short, EmptyData}
use Rattle.pdcp_pdu.specs.Pdus.{SrbPdu}
use Rattle.pdcp_pdu.specs.Grammar.{IsSrbPdu, srb_spelling}
use Rattle.pdcp_pdu.specs.Refusals.{where_true, srb_refusal}
use Rattle.pdcp_pdu.specs.Reading.{refused, srb_at}
use Rattle.pdcp_pdu.specs.Laws.{IsSrbInRange, IsSrbAgain}

-- a PDU of these fields
abbrev made : ℕ → List ℕ → List ℕ → SrbPdu
made sn octets tag = record { sn = sn; octets = octets; tag = tag }

-- the fields at their places
abbrev fields : List ℕ → SrbPdu
fields octets =
    made (slice_index octets 0 % 32) (drop 1 (take (length octets - 4) octets)) (drop (length octets - 4) octets)

-- what is read, by the cases that are true
abbrev read_by : List ℕ → Bool → Bool → Result SrbPdu PdcpRefusal
read_by octets short empty =
    cond short (refused (length octets) Short) (cond empty (refused 1 EmptyData) (Ok (fields octets)))

abbrev refused_by : List ℕ → Bool → Bool → Option PdcpRefusal
refused_by octets short empty = where_true short (length octets) Short (where_true empty 1 EmptyData None)

agrees_by : (octets : List ℕ) (short empty : Bool)
    → MatchResult (read_by octets short empty) (λ pdu. refused_by octets short empty ≡ None)
    (λ e. refused_by octets short empty ≡ Some e)
agrees_by octets true empty = refl
agrees_by octets false true = refl
agrees_by octets false false = refl

-- the first case that is true
pub srb_agrees : (octets : List ℕ)
    → MatchResult (srb_at octets) (λ pdu. srb_refusal octets ≡ None) (λ e. srb_refusal octets ≡ Some e)
unfolding srb_at
srb_agrees octets = agrees_by octets (nat_lt (length octets) 5) (length octets == 5)

some_length : (xs : List ℕ) → (xs ≡ [] → ⊥) → 0 < length xs
some_length [] some = absurd (some refl)
some_length (x ∷ xs) some = omega arith

-- the fields of a header, data and a MAC-I
fields_at : (first : ℕ) (data-part tag octets : List ℕ) → octets ≡ first ∷ (data-part ++ tag)
    → length octets - 4 ≡ suc (length data-part) → fields octets ≡ made (first % 32) data-part tag
fields_at first data-part tag octets whole size =
    let front : take (length data-part) (data-part ++ tag) ≡ data-part =
    take_at data-part tag (length data-part) refl in
    let back : drop (length data-part) (data-part ++ tag) ≡ tag = drop_at data-part tag (length data-part) refl in
    let step : fields octets ≡ made (first % 32) (take (length data-part) (data-part ++ tag))
    (drop (length data-part) (data-part ++ tag)) = rw (size, whole) refl in
    step ∙ ap (λ xs. made (first % 32) xs (drop (length data-part) (data-part ++ tag))) front
    ∙ ap (λ xs. made (first % 32) data-part xs) back

pub srb_accepts : (pdu : SrbPdu) (octets : List ℕ) → IsSrbPdu pdu octets → srb_at octets ≡ Ok pdu
unfolding srb_at
srb_accepts pdu octets h =
    let whole : octets ≡ (h.reserved * 32 + pdu.sn) ∷ (pdu.octets ++ pdu.tag) = h.spelled in
    let some : 0 < length pdu.octets = some_length pdu.octets h.some in
    let total : length octets ≡ suc (length (pdu.octets ++ pdu.tag)) = ap length whole in
    let parts : length (pdu.octets ++ pdu.tag) ≡ length pdu.octets + length pdu.tag =
    length-append pdu.octets pdu.tag in
    let long : nat_lt (length octets) 5 ≡ false = le-ltb (length octets) 5 (omega (arith, total, parts, some, h.tag)) in
    let longer : (length octets == 5) ≡ false =
    ne_eqb (length octets) 5 (λ e. omega (arith, e, total, parts, some, h.tag)) in
    let size : length octets - 4 ≡ suc (length pdu.octets) = omega (arith, total, parts, h.tag) in
    let value : (h.reserved * 32 + pdu.sn) % 32 ≡ pdu.sn = omega (arith, h.number) in
    let made-of : fields octets ≡ pdu = fields_at (h.reserved * 32 + pdu.sn) pdu.octets pdu.tag octets whole size
    ∙ ap (λ sn. made sn pdu.octets pdu.tag) value in
    rw (long, longer) (ap (λ (p : SrbPdu). Ok p) made-of)

is_whole : (octets : List ℕ) → 6 ≤ length octets → ((i : ℕ) → slice_index octets i < 256)
    → IsSrbPdu (fields octets) octets
is_whole [] long fits = absurd (omega (arith, long))
is_whole (a ∷ rest) long fits =
    let first : a < 256 = fits 0 in
    let size : length (a ∷ rest) - 4 ≡ suc (length rest - 4) = omega (arith, long) in
    let same : fields (a ∷ rest) ≡ made (a % 32) (take (length rest - 4) rest) (drop (length rest - 4) rest) =
    rw size refl in
    let front : length (take (length rest - 4) rest) ≡ length rest - 4 =
    length-take-le (length rest - 4) rest (omega arith) in
    let back : length (drop (length rest - 4) rest) ≡ length rest - (length rest - 4) =
    length-drop (length rest - 4) rest in
    let value : a / 32 * 32 + a % 32 ≡ a = omega arith in
    subst (λ p. IsSrbPdu p (a ∷ rest)) (sym same) (record {
      reserved = a / 32;
      few = omega (arith, first);
      number = omega arith;
      some = λ none. omega (arith, front, ap length none, long);
      tag = omega (arith, back, long);
      spelled = rw (value, take-append-drop (length rest - 4) rest) refl;
    })

found_by : (octets : List ℕ) (short empty : Bool) → nat_lt (length octets) 5 ≡ short → (length octets == 5) ≡ empty
    → ((i : ℕ) → slice_index octets i < 256)
    → IfOk (read_by octets short empty) (λ pdu. IsSrbPdu pdu octets)
found_by octets true empty e f fits = tt
found_by octets false true e f fits = tt
found_by octets false false e f fits =
    let at-least : 5 ≤ length octets = ltb-false (length octets) 5 e in
    let not-five : length octets ≡ 5 → ⊥ = eqb-false (length octets) 5 f in
    is_whole octets (omega (arith, at-least, not-five)) fits

pub srb_found : (octets : List ℕ) → ((i : ℕ) → slice_index octets i < 256)
    → IfOk (srb_at octets) (λ pdu. IsSrbPdu pdu octets)
unfolding srb_at
srb_found octets fits = found_by octets (nat_lt (length octets) 5) (length octets == 5) refl refl fits

-- what is read is one PDU
same_read : (read : Result SrbPdu PdcpRefusal) (pdu other : SrbPdu) → read ≡ Ok pdu → read ≡ Ok other → other ≡ pdu
same_read read pdu other e f = let same : Ok other ≡ Ok pdu = sym f ∙ e in cc

-- what is written is read again
pub srb_again : (pdu : SrbPdu) → IsSrbInRange pdu → IsSrbAgain pdu
srb_again pdu h =
    let spelled = srb_spelling pdu in
    let accepted : IsSrbPdu pdu spelled =
    record { reserved = 0; few = omega arith; number = h.number; some = h.some; tag = h.tag; spelled = refl } in
    let read : srb_at spelled ≡ Ok pdu = srb_accepts pdu spelled accepted in
    record {
      accepted = accepted;
      only = λ other is. same_read (srb_at spelled) pdu other read (srb_accepts other spelled is);
      read = read;
    }
