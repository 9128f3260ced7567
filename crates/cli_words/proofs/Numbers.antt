-- The number of a word.
use Rattle.std.proofs.Common.{◌≡◌, ◌^◌, ◌<◌, ◌≤◌, ◌&&◌, ◌∙◌, ℕ, Bool, List, ◌∷◌, refl, true, false, Some, Result, Ok}
use Rattle.std.proofs.Common.{Err, arith, rules, length, nat_lt, nat_le, sym, ap, codes}
use Rattle.std.proofs.lemmas.Bool.Decides.{nat_tests}
use Rattle.std.proofs.lemmas.Str.Parse.{IsDigitsTest, IsNumeralModel, numerals_by_fold}
use Rattle.std.specs.List.{list_all}
use Rattle.std.specs.Result.{result_ok}
use Rattle.std.specs.Str.Parse.{IsNumeral, ParsesUnsigned, digits_value, without_leading_plus}
use Rattle.clap.specs.Words.{first_of, first_value, rows_of}
use Rattle.clap.specs.declared.parser.matches.Found.{Found}
use Rattle.clap.proofs.WalkLemmas.{first_value-rows}
use Rattle.text_digits.specs.Numerals.{is_digit, value_behind}
use Rattle.cli_words.specs.Commands.{is_number, number_in}

both : (a b : Bool) → (a && b) ≡ true → (a ≡ true) × (b ≡ true)
both true b h = (refl, h)
both false b h = cc

digit_parts : (c : ℕ) (cs : List ℕ) → list_all is_digit (c ∷ cs) ≡ true
    → ((48 ≤ c) × (c ≤ 57)) × (list_all is_digit cs ≡ true)
digit_parts c cs h =
    let parts = both (is_digit c) (list_all is_digit cs) h in
    let range = both (nat_le 48 c) (nat_le c 57) parts.0 in
    let low = range.0 in
    let high = range.1 in
    ((grind (arith, nat_tests), grind (arith, nat_tests)), parts.1)

digit_more : (c : ℕ) (cs : List ℕ) → (48 ≤ c) × (c ≤ 57) → list_all is_digit cs ≡ true
    → list_all is_digit (c ∷ cs) ≡ true
digit_more c cs range rest =
    let low : nat_le 48 c ≡ true = let l = range.0 in grind (arith, nat_tests) in
    let high : nat_le c 57 ≡ true = let r = range.1 in grind (arith, nat_tests) in
    rw (low, high) rest

tells : IsDigitsTest (λ ds. list_all is_digit ds ≡ true)
tells = record { empty = refl; parts = digit_parts; more = digit_more }

own : IsNumeralModel (λ ds. list_all is_digit ds ≡ true) (value_behind 0)
own = numerals_by_fold _ tells value_behind (search rules)

numbered : (ds : List ℕ) → IsNumeral 10 ds → digits_value 10 ds < 2 ^ 32 → is_number ds ≡ true
numbered ds numeral fits =
    let same : value_behind 0 ds ≡ digits_value 10 ds = own.same ds numeral.1 in
    let digits : list_all is_digit ds ≡ true = own.from ds numeral.1 in
    let some : nat_lt 0 (length ds) ≡ true = let few = numeral.0 in grind (arith, nat_tests) in
    let small : nat_le (value_behind 0 ds) 4294967295 ≡ true = grind (arith, nat_tests) in
    rw (digits, some, small) refl

numeral_of : (ds : List ℕ) → is_number ds ≡ true → IsNumeral 10 ds × (digits_value 10 ds < 2 ^ 32)
numeral_of ds h =
    let parts = both (list_all is_digit ds) _ h in
    let rest = both (nat_lt 0 (length ds)) (nat_le (value_behind 0 ds) 4294967295) parts.1 in
    let digits = own.to ds parts.0 in
    let same : value_behind 0 ds ≡ digits_value 10 ds = own.same ds digits in
    let some = rest.0 in
    let small = rest.1 in
    ((grind (arith, nat_tests), digits), grind (arith, nat_tests))

not_numbered : (ds : List ℕ) → ¬ (IsNumeral 10 ds × (digits_value 10 ds < 2 ^ 32)) → is_number ds ≡ false
not_numbered ds refused = go (is_number ds) refl
  where
    go : (b : Bool) → is_number ds ≡ b → is_number ds ≡ false
    go true e = absurd (refused (numeral_of ds e))
    go false e = e

pub number_read : {E : Type 0} (word : List ℕ) (r : Result ℕ E) → ParsesUnsigned 32 10 word r
    → result_ok r ≡ number_in word
number_read word (Ok n) h =
    let ds = without_leading_plus word in
    rw (numbered ds h.0.0 h.0.1) (ap Some (h.1 ∙ sym (own.same ds h.0.0.1)))
number_read word (Err e) h = rw (not_numbered (without_leading_plus word) h) refl

-- the word that clap holds for the number
pub number_value : (found : Found) → first_value found (codes "number") ≡ first_of (codes "number") (rows_of found)
number_value found = first_value-rows found (codes "number")
