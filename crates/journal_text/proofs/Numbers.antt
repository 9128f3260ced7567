-- Numbers that are written as they were read.
use Rattle.std.proofs.Common.{◌≡◌, ◌<◌, ◌≤◌, ◌^◌, ◌==◌, ℕ, List, [], ◌∷◌, true, false, Bool, if◌then◌else◌, length}
use Rattle.std.proofs.Common.{nat_lt, get_or, arith, rules, refl, Ok, Err, ◌∙◌, sym, ap, Result, inl, inr, ◌⊎◌, ◌≢◌}
use Rattle.std.proofs.Common.{Option, Some}
use Rattle.std.proofs.Common.{None, codes, append-nil, ◌++◌}
use Rattle.std.proofs.lemmas.Bool.{and_parts}
use Rattle.std.proofs.lemmas.Fmt.{digits_decimal, digits_value-decimal, decimal_nonempty}
use Rattle.air_record.specs.Text.{count_text}
use Rattle.air_text.proofs.LinesBack.{number-of-decimal}
use Rattle.journal_text.specs.Records.{IsCount}
use Rattle.journal_text.proofs.Cuts.{is_free}
use Rattle.air_text.specs.declared.fault.LineRefusal.TheVariants.{Range, Number}
use Rattle.std.specs.Fmt.{decimal}
use Rattle.std.specs.List.{list_all, AllPass}
use Rattle.std.proofs.lemmas.List.Sums.{AllPass-from_list_all}
use Rattle.air_text.specs.declared.fault.LineRefusal.{LineRefusal}
use Rattle.journal_text.specs.Answers.{none}
use Rattle.journal_text.specs.Fields.{long_of, number_to, count_of}
use Rattle.std.specs.Str.{bytes_eq}
use Rattle.std.proofs.lemmas.Slice.Eq.{bytes_eq-Decides}
use Rattle.std.proofs.lemmas.Fmt.{decimal-digits_value}
use Rattle.std.proofs.lemmas.Str.Parse.{IsNumeralModel, numerals_by_fold}
use Rattle.text_digits.specs.Numerals.{is_digit, value_behind}
use Rattle.air_text.specs.Fields.{is_number, number_of}

pub same_word : (a b : List ℕ) → bytes_eq a b ≡ true → a ≡ b
same_word a b e = (bytes_eq-Decides a b).0 e

digits : IsNumeralModel (λ ds. list_all is_digit ds ≡ true) (value_behind 0)
digits = numerals_by_fold _ (search rules) value_behind (search (rules, arith))

-- digits without a needless 0 in front
numeral : (text : List ℕ) → is_number text ≡ true
    → (list_all is_digit text ≡ true) × (0 < length text) × (get_or text 0 0 ≡ 48 → length text ≡ 1)
unfolding is_number
numeral [] h = cc
numeral (x ∷ []) h = (h, omega arith, λ e. refl)
numeral (x ∷ y ∷ ys) h =
    let some : (length (x ∷ y ∷ ys) == 0) ≡ false = grind arith in
    let two : nat_lt 1 (length (x ∷ y ∷ ys)) ≡ true = grind arith in
    let opened : is_number (x ∷ y ∷ ys) ≡ (if x == 48 then false else list_all is_digit (x ∷ y ∷ ys)) =
    rw (some, two) refl in
    elim (x == 48) as (λ b. b ≡ (x == 48) → (if b then false else list_all is_digit (x ∷ y ∷ ys)) ≡ true
    → (list_all is_digit (x ∷ y ∷ ys) ≡ true) × (0 < length (x ∷ y ∷ ys)) × (x ≡ 48 → length (x ∷ y ∷ ys) ≡ 1)) [
      | true ↦ λ e f. cc
      | false ↦ λ e f. (f, omega arith, λ same. absurd (grind (arith, e, same)))
    ] refl (sym opened ∙ h)

pub written_again : (text : List ℕ) → is_number text ≡ true → value_behind 0 text < 2 ^ 64
    → decimal (value_behind 0 text) ≡ text
written_again text h small = let p = numeral text h in decimal-digits_value digits text p.0 p.1 p.2 small

error_in : Result ℕ LineRefusal → LineRefusal
error_in (Ok n) = Range
error_in (Err e) = e

-- a numeral that isn't read is beyond the bound
beyond : (e : LineRefusal) (b : Bool) (v : ℕ) → (if b then Err Range else Ok v) ≡ Err e → (e ≡ Range → ⊥) → ⊥
unfolding error_in
beyond e true v h other = other (sym (ap error_in h))
beyond e false v h other = cc

-- a number that is read is within its bounds
within : (most v n : ℕ) → (if nat_lt most v then Err Range else if nat_lt v 0 then Err Range else Ok v) ≡ Ok n
    → (v ≡ n) × (v ≤ most)
within most v n h = grind (arith, h)

pub written : (most n : ℕ) (text : List ℕ) → number_of 0 most text ≡ Ok n → most < 2 ^ 64 → decimal n ≡ text
unfolding number_of
written most n text h small =
    elim (is_number text) as (λ b. b ≡ is_number text
    → (if b then (if nat_lt most (value_behind 0 text) then Err Range else if nat_lt (value_behind 0 text) 0
    then Err Range else Ok (value_behind 0 text)) else Err Number) ≡ Ok n → decimal n ≡ text) [
      | true ↦ λ (e : true ≡ is_number text) f.
          let p = within most (value_behind 0 text) n f in
          ap decimal (sym p.0) ∙ written_again text (sym e) (omega (arith, p.1, small))
      | false ↦ λ e f. cc
    ] refl h

-- a numeral within a bound, or beyond, or none
cases : (most : ℕ) (text : List ℕ)
    → ((is_number text ≡ true) × (number_of 0 most text ≡ (if nat_lt most (value_behind 0 text) then Err Range
    else Ok (value_behind 0 text)))) ⊎ ((is_number text ≡ false) × (number_of 0 most text ≡ Err Number))
unfolding number_of
cases most text =
    let low : nat_lt (value_behind 0 text) 0 ≡ false = grind arith in
    elim (is_number text) as (λ b. ((b ≡ true) × ((if b then (if nat_lt most (value_behind 0 text) then Err Range
    else if nat_lt (value_behind 0 text) 0 then Err Range else Ok (value_behind 0 text)) else Err Number)
    ≡ (if nat_lt most (value_behind 0 text) then Err Range else Ok (value_behind 0 text))))
    ⊎ ((b ≡ false) × ((if b then (if nat_lt most (value_behind 0 text) then Err Range
    else if nat_lt (value_behind 0 text) 0 then Err Range else Ok (value_behind 0 text)) else Err Number)
    ≡ Err Number))) [
      | true ↦ inl (refl, rw low refl)
      | false ↦ inr (refl, refl)
    ]

pub long_small : (n : ℕ) (text : List ℕ) → number_of 0 4294967295 text ≡ Ok n → long_of text ≡ Ok n
unfolding long_of
long_small n text h = elim (cases 4294967295 text) [
  | inl p ↦ grind (arith, p.0, p.1, h)
  | inr p ↦ cc
]

pub digits_beyond : (text : List ℕ) → number_of 0 4294967295 text ≡ Err Range → AllPass is_digit text
digits_beyond text h = elim (cases 4294967295 text) [
  | inl p ↦ AllPass-from_list_all is_digit text (numeral text p.0).0
  | inr p ↦ cc
]

pub long_large : (n : ℕ) (text : List ℕ) → number_of 0 4294967295 text ≡ Err Range → n ≡ value_behind 0 text
    → n < 2 ^ 64 → (long_of text ≡ Ok n) × (decimal n ≡ text)
unfolding long_of
long_large n text h is small = elim (cases 4294967295 text) [
  | inl p ↦
      let inside : value_behind 0 text < 2 ^ 64 = omega (arith, is, small) in
      let within : nat_lt (value_behind 0 text) (2 ^ 64) ≡ true = grind (arith, inside) in
      (rw (p.0, within) (ap Ok (sym is)), ap decimal is ∙ written_again text p.0 inside)
  | inr p ↦ cc
]

pub long_over : (text : List ℕ) → number_of 0 4294967295 text ≡ Err Range → 2 ^ 64 ≤ value_behind 0 text
    → long_of text ≡ none
unfolding long_of
long_over text h large = elim (cases 4294967295 text) [
  | inl p ↦ let over : nat_lt (value_behind 0 text) (2 ^ 64) ≡ false = grind (arith, large) in rw (p.0, over) refl
  | inr p ↦ cc
]

pub long_none : (e : LineRefusal) (text : List ℕ) → number_of 0 4294967295 text ≡ Err e → e ≢ Range
    → long_of text ≡ none
unfolding long_of
long_none e text h other = elim (cases 4294967295 text) [
  | inl p ↦ absurd (beyond e (nat_lt 4294967295 (value_behind 0 text)) (value_behind 0 text) (sym p.1 ∙ h) other)
  | inr p ↦ rw p.0 refl
]

pub ruleset longs = (written, long_small, digits_beyond, long_large, long_over, long_none)

-- ---- numbers read back from their text, in which no octet but digits stands

digits-in : (n : ℕ) → n < 2 ^ 64 → list_all is_digit (decimal n) ≡ true
digits-in n h = digits_decimal digits n h

other-digit : (x at : ℕ) → is_digit x ≡ true → is_digit at ≡ false → x ≡ at → ⊥
other-digit x at digit out same = let e : true ≡ false = sym digit ∙ ap is_digit same ∙ out in cc

free-digits : (at : ℕ) → is_digit at ≡ false → (xs : List ℕ) → list_all is_digit xs ≡ true → is_free at xs ≡ true
free-digits at out [] h = refl
free-digits at out (x ∷ xs) h =
    let p = and_parts (is_digit x) (list_all is_digit xs) h in
    let other : (x == at) ≡ false = grind (arith, other-digit x at p.0 out) in rw other (free-digits at out xs p.1)

pub free-number : (at n : ℕ) → is_digit at ≡ false → n < 2 ^ 64 → is_free at (decimal n) ≡ true
free-number at n out h = free-digits at out (decimal n) (digits-in n h)

pub octet-free : (n : ℕ) → n < 2 ^ 8 → is_free 32 (decimal n) ≡ true
octet-free n h = free-number 32 n refl (omega (arith, h))

pub number-free : (n : ℕ) → n < 2 ^ 32 → is_free 32 (decimal n) ≡ true
number-free n h = free-number 32 n refl (omega (arith, h))

pub long-free : (n : ℕ) → n < 2 ^ 64 → is_free 32 (decimal n) ≡ true
long-free n h = free-number 32 n refl h

pub count-free : (count : Option ℕ) → IsCount count → is_free 32 (count_text count) ≡ true
count-free None h = refl
count-free (Some n) h = number-free n h

pub octet-back : (n : ℕ) → n < 2 ^ 8 → number_to 255 (decimal n) ≡ Ok n
unfolding number_to
octet-back n h = rw (number-of-decimal 0 255 n (omega arith) (omega arith) (omega (arith, h))) refl

pub number-back : (n : ℕ) → n < 2 ^ 32 → number_to 4294967295 (decimal n) ≡ Ok n
unfolding number_to
number-back n h = rw (number-of-decimal 0 4294967295 n (omega arith) (omega arith) (omega (arith, h))) refl

pub long-back : (n : ℕ) → n < 2 ^ 64 → long_of (decimal n) ≡ Ok n
unfolding long_of
long-back n h =
    let value : value_behind 0 (decimal n) ≡ n = digits_value-decimal digits n h in
    let within : nat_lt n (2 ^ 64) ≡ true = grind (arith, h) in
    elim (cases 18446744073709551615 (decimal n)) [
      | inl p ↦ rw (p.0, value, within) refl
      | inr p ↦
          let read = number-of-decimal 0 18446744073709551615 n (omega arith) (omega arith) (omega (arith, h)) in cc
    ]

-- digits are no -
pub no-dash : (ds rest : List ℕ) → list_all is_digit ds ≡ true → 0 < length ds
    → bytes_eq (ds ++ rest) (codes "-") ≡ false
no-dash [] rest h some = absurd (omega (arith, some))
no-dash (x ∷ xs) rest h some =
    let p = and_parts (is_digit x) (list_all is_digit xs) h in search (rules, p.0)

pub dash-number : (n : ℕ) (rest : List ℕ) → n < 2 ^ 64 → bytes_eq (decimal n ++ rest) (codes "-") ≡ false
dash-number n rest h = no-dash (decimal n) rest (digits-in n h) (decimal_nonempty n h)

pub count-back : (count : Option ℕ) → IsCount count → count_of (count_text count) ≡ Ok count
unfolding count_of
count-back None h = refl
count-back (Some n) h =
    let no : bytes_eq (decimal n) (codes "-") ≡ false =
    ap (λ (t : List ℕ). bytes_eq t (codes "-")) (sym (append-nil (decimal n))) ∙ dash-number n [] (omega (arith, h)) in
    rw (no, number-back n h) refl
