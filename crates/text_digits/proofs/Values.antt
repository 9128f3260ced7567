-- The values of digits, lane by lane.
use Rattle.std.proofs.Common.{◌≡◌, ◌<◌, ◌+◌, ◌-◌, ◌*◌, ◌%◌, ◌^◌, ℕ, zero, suc, Bool, true, false, not, cond, ltb, leb}
use Rattle.std.proofs.Common.{List, [], ◌∷◌, length, map, replicate, bit_or, refl, sym, ap, ◌∙◌, arith, w8, Fits, ◌&&◌}
use Rattle.std.specs.Prelude.{nat_eq, nat_lt, unwrap_or}
use Rattle.std.proofs.lemmas.Simd.{length-zip2, length-replicate, mask_l-mod}
use Rattle.std.proofs.lemmas.Bool.Decides.{nat_tests}
use Rattle.std.proofs.lemmas.List.{length-map}
use lib.Lanes.{zip2, sel_l, mask_l, top, Each1}
use Rattle.text_digits.specs.Pairs.{number_value, small_value, letter_value, value, digit_value, all_digits}
use Rattle.text_digits.specs.declared.reading.Letters.{Letters}
use Rattle.text_digits.specs.declared.reading.Letters.TheVariants.{Either, Lower}
use Rattle.text_digits.proofs.Lanes.{agree}

-- the operators on two lanes
abbrev pub add : ℕ → ℕ → ℕ
add a b = (a + b) % 2 ^ 8

abbrev pub less : ℕ → ℕ → ℕ
less a b = (a + (2 ^ 8 - b)) % 2 ^ 8

abbrev pub below : ℕ → ℕ → ℕ
below a b = cond (ltb a b) 255 0

abbrev pub at_most : ℕ → ℕ → ℕ
at_most a b = cond (leb a b) 255 0

abbrev excess : ℕ → ℕ → ℕ
excess a b = less (cond (top 7 (below a b)) b a) b

abbrev least : ℕ → ℕ → ℕ
least a b = cond (top 7 (below a b)) a b

-- digits less `:`, and letters less `a`
abbrev from_colon : ℕ → List ℕ → List ℕ
from_colon n v = zip2 less v (replicate n 58)

abbrev from_a : ℕ → List ℕ → List ℕ
from_a n v = zip2 less v (replicate n 97)

pub numbers : (n : ℕ) (v : List ℕ) → length v ≡ n → Each1 (Fits w8) v
    → zip2 less
    (zip2 less (sel_l (map (top 7) (zip2 below (from_colon n v) (replicate n 6))) (replicate n 6) (from_colon n v))
    (replicate n 6)) (replicate n 240) ≡ map number_value v
numbers zero [] long fits = refl
numbers (suc n) [] long fits = absurd (omega (arith, long))
numbers zero (x ∷ v) long fits = absurd (omega (arith, long))
numbers (suc n) (x ∷ v) long fits =
    let here = agree (λ x. less (excess (less x 58) 6) 240) number_value 256 refl x fits.0.fits in
    rw (here, numbers n v (omega (arith, long)) fits.1) refl

pub smalls : (n : ℕ) (v : List ℕ) → length v ≡ n → Each1 (Fits w8) v
    → zip2 add (sel_l (map (top 7) (zip2 below (from_a n v) (replicate n 245))) (from_a n v) (replicate n 245))
    (replicate n 10) ≡ map small_value v
smalls zero [] long fits = refl
smalls (suc n) [] long fits = absurd (omega (arith, long))
smalls zero (x ∷ v) long fits = absurd (omega (arith, long))
smalls (suc n) (x ∷ v) long fits =
    let here = agree (λ x. add (least (less x 97) 245) 10) small_value 256 refl x fits.0.fits in
    rw (here, smalls n v (omega (arith, long)) fits.1) refl

pub of-either : (n : ℕ) (v : List ℕ) → length v ≡ n
    → map small_value (zip2 bit_or v (replicate n 32)) ≡ map (letter_value Either) v
of-either zero [] long = refl
of-either (suc n) [] long = absurd (omega (arith, long))
of-either zero (x ∷ v) long = absurd (omega (arith, long))
of-either (suc n) (x ∷ v) long = ap (λ rest. small_value (bit_or x 32) ∷ rest) (of-either n v (omega (arith, long)))

least-value : (letters : Letters) (x : ℕ) → x < 256
    → least (number_value x) (letter_value letters x) ≡ value letters x
least-value Either = agree (λ x. least (number_value x) (letter_value Either x)) (value Either) 256 refl
least-value Lower = agree (λ x. least (number_value x) (letter_value Lower x)) (value Lower) 256 refl

pub least-values : (letters : Letters) (v : List ℕ) → Each1 (Fits w8) v
    → sel_l (map (top 7) (zip2 below (map number_value v) (map (letter_value letters) v))) (map number_value v)
    (map (letter_value letters) v) ≡ map (value letters) v
least-values letters [] fits = refl
least-values letters (x ∷ v) fits =
    rw (least-value letters x fits.0.fits, least-values letters v fits.1) refl

-- the value of a digit is below 16, and that of anything else isn't
pub value_is : (letters : Letters) (x : ℕ) → x < 256
    → unwrap_or (digit_value letters x) 255 ≡ cond (ltb (value letters x) 16) (value letters x) 255
value_is Either =
    agree (λ x. unwrap_or (digit_value Either x) 255) (λ x. cond (ltb (value Either x) 16) (value Either x) 255) 256
    refl
value_is Lower =
    agree (λ x. unwrap_or (digit_value Lower x) 255) (λ x. cond (ltb (value Lower x) 16) (value Lower x) 255) 256 refl

-- ---- whether all are digits

large-is : (x : ℕ) → top 7 (at_most 16 x) ≡ not (nat_lt x 16)
large-is x = grind (arith, nat_tests)

step : (a : Bool) (all : Bool) (m : ℕ) → nat_eq m 0 ≡ all → nat_eq (cond (not a) 1 0 + 2 * m) 0 ≡ (a && all)
step false all m is = grind (arith, nat_tests)
step true all m is =
    let same : 0 + 2 * m ≡ 2 * m = omega arith in
    ap (λ (k : ℕ). nat_eq k 0) same ∙ twice m ∙ is
  where
    twice : (m : ℕ) → nat_eq (2 * m) 0 ≡ nat_eq m 0
    twice m = grind (arith, nat_tests)

none-large : (n : ℕ) (v : List ℕ) → length v ≡ n
    → nat_eq (mask_l (map (top 7) (zip2 at_most (replicate n 16) v))) 0 ≡ all_digits v
none-large zero [] long = refl
none-large zero (x ∷ v) long = absurd (omega (arith, long))
none-large (suc n) [] long = absurd (omega (arith, long))
none-large (suc n) (x ∷ v) long =
    rw (large-is x) (step (nat_lt x 16) (all_digits v) _ (none-large n v (omega (arith, long))))

pub are-digits : (n : ℕ) (v : List ℕ) → length v ≡ n → n < 65
    → nat_eq (mask_l (map (top 7) (zip2 at_most (replicate n 16) v)) % 2 ^ 64) 0 ≡ all_digits v
are-digits n v long fits =
    let long_mask : length (map (top 7) (zip2 at_most (replicate n 16) v)) ≡ n =
    length-map (zip2 at_most (replicate n 16) v) (top 7)
    ∙ length-zip2 at_most (replicate n 16) v (length-replicate {A = ℕ} n 16 ∙ sym long)
    ∙ length-replicate {A = ℕ} n 16 in
    ap (λ m. nat_eq m 0) (mask_l-mod _ 64 (omega (arith, long_mask, fits))) ∙ none-large n v long
