use Rattle.std.proofs.Common.{◌≡◌, ◌<◌, ◌^◌, ◌==◌, ◌/◌, ◌%◌, ℕ, zero, suc, List, [], ◌∷◌, refl, rules, true, false}
use Rattle.std.proofs.Common.{if◌then◌else◌, slice_index, Option, Some, None}
use Rattle.std.specs.Char.{is_ascii_digit}
use Rattle.std.specs.Str.{all_ascii_digits}
use Rattle.std.specs.Fmt.{decimal}
use Rattle.std.proofs.lemmas.Fmt.{digits_decimal}
use Rattle.std.proofs.lemmas.Bool.{and_parts}
use Rattle.hex.specs.Hex.{encode_lower, encode_with, lower_digits}
use Rattle.air_record.specs.Text.{count_text, bitmap_text}
use Rattle.law_text.specs.Back.{IsCount}
use Rattle.air_text.specs.Spoken.{is_clear}
use Rattle.law_text.proofs.Parts.{own}

pub parts-clear : (x : ℕ) (xs : List ℕ) → is_clear (x ∷ xs) ≡ true
    → ((x == 10) ≡ false) × ((x == 32) ≡ false) × (is_clear xs ≡ true)
parts-clear x xs h =
    elim (x == 10) as (λ b. (if b then false else if x == 32 then false else is_clear xs) ≡ true
    → (b ≡ false) × ((x == 32) ≡ false) × (is_clear xs ≡ true)) [
      | true ↦ λ f. cc
      | false ↦ elim (x == 32) as (λ b. (if b then false else is_clear xs) ≡ true
          → (false ≡ false) × (b ≡ false) × (is_clear xs ≡ true)) [
            | true ↦ λ f. cc
            | false ↦ λ f. (refl, refl, f)
          ]
    ] h

clear-digits : (xs : List ℕ) → all_ascii_digits xs ≡ true → is_clear xs ≡ true
clear-digits [] h = refl
clear-digits (x ∷ xs) h =
    let p = and_parts (is_ascii_digit x) (all_ascii_digits xs) h in
    let digit : is_ascii_digit x ≡ true = p.0 in
    let ten : (x == 10) ≡ false = search (rules, digit) in
    let space : (x == 32) ≡ false = search (rules, digit) in
    rw (ten, space) (clear-digits xs p.1)

pub clear-number : (n : ℕ) → n < 2 ^ 64 → is_clear (decimal n) ≡ true
clear-number n h = clear-digits (decimal n) (digits_decimal own n h)

clear-place : (t : List ℕ) → is_clear t ≡ true → (i : ℕ) → ((slice_index t i == 10) ≡ false)
    × ((slice_index t i == 32) ≡ false)
clear-place [] h i = (refl, refl)
clear-place (x ∷ xs) h zero = let p = parts-clear x xs h in (p.0, p.1)
clear-place (x ∷ xs) h (suc i) = let p = parts-clear x xs h in clear-place xs p.2 i

pub clear-octets : (xs : List ℕ) → is_clear (encode_lower xs) ≡ true
unfolding encode_with
clear-octets [] = refl
clear-octets (b ∷ rest) =
    let high = clear-place lower_digits refl (b / 16) in
    let low = clear-place lower_digits refl (b % 16) in
    rw (high.0, high.1, low.0, low.1) (clear-octets rest)

pub clear-bitmap : (xs : List ℕ) → is_clear (bitmap_text xs) ≡ true
clear-bitmap [] = refl
clear-bitmap (x ∷ xs) = clear-octets (x ∷ xs)

pub clear-count : (c : Option ℕ) → IsCount c → is_clear (count_text c) ≡ true
clear-count None h = refl
clear-count (Some n) h = clear-number n h
