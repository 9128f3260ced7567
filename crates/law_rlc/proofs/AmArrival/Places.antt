-- Places of the stream, and places of the fields of numbers.
use Rattle.std.proofs.Common.{◌≡◌, ◌<◌, ◌≤◌, inl, inr, ℕ, zero, suc, ◌+◌, Bool, false, ◌&&◌, ◌||◌, ◌==◌, List, [], ◌∷◌}
use Rattle.std.proofs.Common.{length, nat_le, nat_lt, slice_index, refl, ap, ◌∙◌, arith}
use Rattle.std.specs.List.{AllByRecursion}
use Rattle.std.proofs.lemmas.Bool.Decides.{nat_tests}
use Rattle.std.proofs.lemmas.Bool.{cases_lt, cases_eq}
use Rattle.law_words.specs.Stretches.{Stretch, place_of, covers, octet_has_come, all_from}

-- ---- sizes one behind the other

pub place_next : (sizes : List ℕ) (n : ℕ) → n < length sizes
    → place_of sizes (n + 1) ≡ place_of sizes n + slice_index sizes n
place_next [] n lt = absurd (omega (arith, lt))
place_next (s ∷ sizes) zero lt = by sizes
  where
    by : (sizes : List ℕ) → place_of (s ∷ sizes) (0 + 1) ≡ 0 + s
    by [] = omega arith
    by (x ∷ xs) = omega arith
place_next (s ∷ sizes) (suc n) lt =
    let ih = place_next sizes n (omega (arith, lt)) in
    let e : suc n + 1 ≡ suc (n + 1) = omega arith in
    ap (place_of (s ∷ sizes)) e ∙ omega (arith, ih)

pub place_le : (sizes : List ℕ) (m n : ℕ) → m ≤ n → place_of sizes m ≤ place_of sizes n
place_le [] m n le = omega arith
place_le (s ∷ sizes) zero n le = omega arith
place_le (s ∷ sizes) (suc m) zero le = absurd (omega (arith, le))
place_le (s ∷ sizes) (suc m) (suc n) le = let ih = place_le sizes m n (omega (arith, le)) in omega (arith, ih)

-- ---- a stretch within the field of its number

pub record IsWithin (fields : List ℕ) (s : Stretch) : Type 0 where
  pub known : s.number < length fields
  pub end' : s.from + s.size ≤ slice_index fields s.number

-- it covers a place of a number
abbrev pub lies : Stretch → ℕ → ℕ → Bool
lies s n i = (s.number == n) && (nat_le s.from i && nat_lt i (s.from + s.size))

abbrev pub covered : List Stretch → ℕ → ℕ → Bool
covered [] n i = false
covered (s ∷ came) n i = lies s n i || covered came n i

covers_lies : (fields : List ℕ) (s : Stretch) (n i : ℕ) → IsWithin fields s → n < length fields
    → i < slice_index fields n → covers fields s (place_of fields n + i) ≡ lies s n i
covers_lies fields s n i w known lt = elim (cases_eq s.number n) [
  | inl same ↦
      let e : place_of fields s.number ≡ place_of fields n = ap (place_of fields) same in
      grind (arith, nat_tests, e, same)
  | inr other ↦ elim (cases_lt s.number n) [
    | inl below ↦
        let a = place_next fields s.number w.known in
        let b = place_le fields (s.number + 1) n (omega (arith, below)) in
        let c = w.end' in
        let d : place_of fields s.number + s.from + s.size ≤ place_of fields n + i = omega (arith, a, b, c) in
        grind (arith, nat_tests, d, other)
    | inr above ↦
        let a = place_next fields n known in
        let b = place_le fields (n + 1) s.number (omega (arith, above, other)) in
        let d : place_of fields n + i < place_of fields s.number + s.from = omega (arith, a, b, lt) in
        grind (arith, nat_tests, d, other)
  ]
]

pub come_covered : (fields : List ℕ) (came : List Stretch) (n i : ℕ) → AllByRecursion (IsWithin fields) came
    → n < length fields → i < slice_index fields n
    → octet_has_come fields came (place_of fields n + i) ≡ covered came n i
come_covered fields [] n i h known lt = refl
come_covered fields (s ∷ came) n i h known lt =
    let a = covers_lies fields s n i h.0 known lt in
    let ih = come_covered fields came n i h.1 known lt in
    ap (λ (b : Bool). b || octet_has_come fields came (place_of fields n + i)) a ∙ ap (λ (b : Bool). lies s n i || b) ih

-- none lies behind all fields
pub none_behind : (fields : List ℕ) (came : List Stretch) (place : ℕ) → AllByRecursion (IsWithin fields) came
    → place_of fields (length fields) ≤ place
    → octet_has_come fields came place ≡ false
none_behind fields [] place h le = refl
none_behind fields (s ∷ came) place h le =
    let ih = none_behind fields came place h.1 le in
    let known = h.0.known in
    let a = place_next fields s.number h.0.known in
    let b = place_le fields (s.number + 1) (length fields) (omega (arith, known)) in
    let c = h.0.end' in
    let d : place_of fields s.number + s.from + s.size ≤ place = omega (arith, a, b, c, le) in
    grind (arith, nat_tests, d, ih)

-- ---- all of some places

pub all_from_false : (p : ℕ → Bool) (place n at : ℕ) → place ≤ at → at < place + n → p at ≡ false
    → all_from p place n ≡ false
all_from_false p place zero at a b e = absurd (omega (arith, a, b))
all_from_false p place (suc n) at a b e = elim (cases_eq place at) [
  | inl same ↦ let f : p place ≡ false = ap p same ∙ e in grind (arith, nat_tests, f)
  | inr other ↦ let ih = all_from_false p (place + 1) n at (omega (arith, a, other)) (omega (arith, b)) e in
      grind (arith, nat_tests, ih)
]
