-- Octets by pairs of digits: as far as they are digits, and where they aren't.
use Rattle.std.proofs.Common.{◌≡◌, ◌<◌, ◌+◌, ◌*◌, ◌/◌, ◌%◌, ◌∙◌, ℕ, zero, suc, List, [], ◌∷◌, length, get_or, Option}
use Rattle.std.proofs.Common.{Some, None, map, refl, sym, ap, arith, Bool, true, false, cond, ltb, ◌&&◌, w8, Fits}
use Rattle.std.specs.Prelude.{unwrap_or, nat_lt}
use Rattle.std.proofs.lemmas.Bool.Decides.{nat_tests}
use lib.Lanes.{Each1, number_l}
use Rattle.std.proofs.Common.{if◌then◌else◌}
use Rattle.hex.specs.Hex.{hex_digit_value}
use Rattle.text_digits.specs.Pairs.{value, all_digits, joined, with_pair, pairs, digit_value, is_no_capital}
use Rattle.text_digits.specs.declared.reading.Letters.{Letters}
use Rattle.text_digits.specs.declared.reading.Letters.TheVariants.{Either, Lower}
use Rattle.text_digits.proofs.Values.{value_is}
use Rattle.text_digits.proofs.DecodeLaws.{with-none, with-nothing}

hex-small : (c v : ℕ) → hex_digit_value c ≡ Some v → v < 16
hex-small c v h = grind (arith)

digit-small : (letters : Letters) (c v : ℕ) → digit_value letters c ≡ Some v → v < 16
digit-small Either c v h = hex-small c v h
digit-small Lower c v h = by (is_no_capital c) h
  where
    by : (b : Bool) → (if b then hex_digit_value c else None) ≡ Some v → v < 16
    by true h = hex-small c v h
    by false h = cc

-- octets, as `value` asks
abbrev pub AreOctets : List ℕ → Type 0
AreOctets xs = (i : ℕ) → Fits w8 (get_or xs i 0)

-- what a value says of its digit
some-value : (v : ℕ) (o : Option ℕ) → unwrap_or o 255 ≡ cond (ltb v 16) v 255 → nat_lt v 16 ≡ true → o ≡ Some v
some-value v (Some u) is small = let same : u ≡ v = rw small at is in ap Some same
some-value v None is small = let same : 255 ≡ v = rw small at is in absurd (grind (arith, nat_tests, small, same))

none-value : (letters : Letters) (x v : ℕ) (o : Option ℕ) → o ≡ digit_value letters x
    → unwrap_or o 255 ≡ cond (ltb v 16) v 255
    → nat_lt v 16 ≡ false → o ≡ None
none-value letters x v (Some u) here is large = let small : u < 16 = digit-small letters x u (sym here) in
    let same : u ≡ 255 = rw large at is in absurd (omega (arith, small, same))
none-value letters x v None here is large = refl

and-first : (a b : Bool) → (a && b) ≡ true → a ≡ true
and-first true b is = refl
and-first false b is = is

and-second : (a b : Bool) → (a && b) ≡ true → b ≡ true
and-second true b is = is
and-second false b is = cc

joined-small : (v w : ℕ) → nat_lt v 16 ≡ true → nat_lt w 16 ≡ true → (v * 16 + w) % 256 ≡ v * 16 + w
joined-small v w high low = grind (arith, nat_tests, high, low)

-- digits alone say the octets of their values
pub pairs-good : (letters : Letters) (xs : List ℕ) → AreOctets xs → length xs % 2 ≡ 0
    → all_digits (map (value letters) xs) ≡ true
    → pairs letters xs ≡ Some (joined (map (value letters) xs))
pairs-good letters [] octets even all = refl
pairs-good letters (x ∷ []) octets even all = absurd (omega (arith, even))
pairs-good letters (x ∷ y ∷ rest) octets even all =
    let high = and-first (nat_lt (value letters x) 16) _ all in
    let behind = and-second (nat_lt (value letters x) 16) _ all in
    let low = and-first (nat_lt (value letters y) 16) _ behind in
    let ih = pairs-good letters rest (λ i. octets (suc (suc i))) (omega (arith, even))
    (and-second (nat_lt (value letters y) 16) _ behind) in
    let first = some-value (value letters x) (digit_value letters x) (value_is letters x (octets 0).fits) high in
    let second = some-value (value letters y) (digit_value letters y) (value_is letters y (octets 1).fits) low in
    rw (first, second, ih, joined-small (value letters x) (value letters y) high low) refl

-- anything else says none
pub pairs-bad : (letters : Letters) (xs : List ℕ) → AreOctets xs → length xs % 2 ≡ 0
    → all_digits (map (value letters) xs) ≡ false → pairs letters xs ≡ None
pairs-bad letters [] octets even some = cc
pairs-bad letters (x ∷ []) octets even some = refl
pairs-bad letters (x ∷ y ∷ rest) octets even some =
    by (nat_lt (value letters x) 16) (nat_lt (value letters y) 16) refl refl some
    (pairs-bad letters rest (λ i. octets (suc (suc i))) (omega (arith, even)))
  where
    by : (a b : Bool) → nat_lt (value letters x) 16 ≡ a → nat_lt (value letters y) 16 ≡ b
        → (a && (b && all_digits (map (value letters) rest))) ≡ false
        → (all_digits (map (value letters) rest) ≡ false → pairs letters rest ≡ None)
        → pairs letters (x ∷ y ∷ rest) ≡ None
    by false b high low some behind =
        rw (none-value letters x (value letters x) (digit_value letters x) refl
        (value_is letters x (octets 0).fits) high) refl
    by true false high low some behind =
        rw (none-value letters y (value letters y) (digit_value letters y) refl
        (value_is letters y (octets 1).fits) low)
        (with-none (digit_value letters x) (pairs letters rest))
    by true true high low some behind =
        rw (behind some) (with-nothing (digit_value letters x) (digit_value letters y))

-- ---- lane by lane

-- the words of pairs of octets, the first octet the low one
word-joined : (v w : ℕ) → v < 256 → w < 256 → (v + 256 * w) * 4097 % 65536 / 256 ≡ (v * 16 + w) % 256
word-joined v w first second = omega (arith, first, second)

first-word : (v w rest : ℕ) → v < 256 → w < 256 → (v + 256 * (w + 256 * rest)) % 65536 ≡ v + 256 * w
first-word v w rest first second = omega (arith, first, second)

other-words : (v w rest : ℕ) → v < 256 → w < 256 → (v + 256 * (w + 256 * rest)) / 65536 ≡ rest
other-words v w rest first second = omega (arith, first, second)

-- the high octets of n words of a number by 4097
abbrev pub products : ℕ → ℕ → List ℕ
products zero m = []
products (suc n) m = m % 65536 * 4097 % 65536 / 256 ∷ products n (m / 65536)

pub joined-lanes : (n : ℕ) (vs : List ℕ) → length vs ≡ 2 * n → Each1 (Fits w8) vs
    → products n (number_l 256 vs) ≡ joined vs
joined-lanes zero [] long fits = refl
joined-lanes zero (v ∷ vs) long fits = absurd (omega (arith, long))
joined-lanes (suc n) [] long fits = absurd (omega (arith, long))
joined-lanes (suc n) (v ∷ []) long fits = absurd (omega (arith, long))
joined-lanes (suc n) (v ∷ w ∷ vs) long fits =
    let high = fits.0.fits in
    let low = fits.1.0.fits in
    rw (
      first-word v w (number_l 256 vs) high low,
      other-words v w (number_l 256 vs) high low,
      word-joined v w high low,
      joined-lanes n vs (omega (arith, long)) fits.1.1,
    ) refl

pub block-good : (letters : Letters) (xs vs octets : List ℕ) (good : Bool) → AreOctets xs → length xs % 2 ≡ 0
    → vs ≡ map (value letters) xs → good ≡ all_digits vs → good ≡ true
    → octets ≡ joined vs → pairs letters xs ≡ Some octets
block-good letters xs vs octets good bytes even values all is read =
    pairs-good letters xs bytes even (sym (all ∙ ap all_digits values) ∙ is)
    ∙ ap Some (sym (read ∙ ap joined values))

pub block-bad : (letters : Letters) (xs vs : List ℕ) (good : Bool) → AreOctets xs → length xs % 2 ≡ 0
    → vs ≡ map (value letters) xs → good ≡ all_digits vs → good ≡ false → pairs letters xs ≡ None
block-bad letters xs vs good bytes even values all is =
    pairs-bad letters xs bytes even (sym (all ∙ ap all_digits values) ∙ is)
