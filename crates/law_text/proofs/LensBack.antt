use Rattle.std.proofs.Common.{◌≡◌, ◌<◌, ◌^◌, ◌==◌, ◌∙◌, ℕ, zero, suc, List, [], ◌∷◌, ◌++◌, map, ap, refl, sym, rules}
use Rattle.std.proofs.Common.{arith, true, false, if◌then◌else◌, append_assoc, append-nil}
use Rattle.std.specs.Char.{is_ascii_digit}
use Rattle.std.specs.Str.{all_ascii_digits}
use Rattle.std.specs.Fmt.{decimal}
use Rattle.std.proofs.lemmas.Fmt.{digits_decimal}
use Rattle.std.proofs.lemmas.Bool.{and_parts}
use Rattle.air_record.specs.Text.{comma_before, lens_text, framing_text}
use Rattle.law_text.specs.Back.{number_back}
use Rattle.air_text.specs.Spoken.{is_clear}
use Rattle.law_text.specs.Lens.{cut_by, is_free, lens_back, AreNumbers, AreLens, framing_back}
use Rattle.law_text.proofs.Parts.{own, back-number}
use Rattle.law_text.proofs.Clear.{clear-number, parts-clear}

pub free-digits : (at : ℕ) → ((x : ℕ) → is_ascii_digit x ≡ true → (x == at) ≡ false) → (xs : List ℕ)
    → all_ascii_digits xs ≡ true → is_free at xs ≡ true
free-digits at other [] h = refl
free-digits at other (x ∷ xs) h =
    let p = and_parts (is_ascii_digit x) (all_ascii_digits xs) h in rw (other x p.0) (free-digits at other xs p.1)

no-comma : (x : ℕ) → is_ascii_digit x ≡ true → (x == 44) ≡ false
no-comma x digit = search (rules, digit)

no-hyphen : (x : ℕ) → is_ascii_digit x ≡ true → (x == 45) ≡ false
no-hyphen x digit = search (rules, digit)

no-colon : (x : ℕ) → is_ascii_digit x ≡ true → (x == 58) ≡ false
no-colon x digit = search (rules, digit)

pub comma-free : (n : ℕ) → n < 2 ^ 64 → is_free 44 (decimal n) ≡ true
comma-free n h = free-digits 44 no-comma (decimal n) (digits_decimal own n h)

pub hyphen-free : (n : ℕ) → n < 2 ^ 64 → is_free 45 (decimal n) ≡ true
hyphen-free n h = free-digits 45 no-hyphen (decimal n) (digits_decimal own n h)

pub colon-free : (n : ℕ) → n < 2 ^ 64 → is_free 58 (decimal n) ≡ true
colon-free n h = free-digits 58 no-colon (decimal n) (digits_decimal own n h)

pub cut-free : (at : ℕ) (w acc rest : List ℕ) → is_free at w ≡ true
    → cut_by at acc (w ++ rest) ≡ cut_by at (acc ++ w) rest
unfolding cut_by
cut-free at [] acc rest h = ap (λ (a : List ℕ). cut_by at a rest) (sym (append-nil acc))
cut-free at (x ∷ xs) acc rest h =
    elim (x == at) as (λ b. (if b then false else is_free at xs) ≡ true
    → (if b then acc ∷ cut_by at [] (xs ++ rest) else cut_by at (acc ++ x ∷ []) (xs ++ rest))
    ≡ cut_by at (acc ++ x ∷ xs) rest) [
      | true ↦ λ f. cc
      | false ↦ λ f. cut-free at xs (acc ++ x ∷ []) rest f
          ∙ ap (λ (a : List ℕ). cut_by at a rest) (append_assoc acc (x ∷ []) xs)
    ] h

cut-more : (acc : List ℕ) (ns : List ℕ) → AreNumbers ns
    → cut_by 44 acc (comma_before (map decimal ns)) ≡ acc ∷ map decimal ns
unfolding cut_by
cut-more acc [] h = refl
cut-more acc (n ∷ ns) h =
    ap (λ (r : List (List ℕ)). acc ∷ r)
    (cut-free 44 (decimal n) [] (comma_before (map decimal ns)) (comma-free n h.0) ∙ cut-more (decimal n) ns h.1)

back-numbers : (ns : List ℕ) → AreNumbers ns → map number_back (map decimal ns) ≡ ns
back-numbers [] h = refl
back-numbers (n ∷ ns) h = rw (back-number n h.0, back-numbers ns h.1) refl

pub back-lens : (ns : List ℕ) → AreLens ns → lens_back (lens_text ns) ≡ ns
unfolding lens_back
back-lens [] h = absurd h
back-lens (n ∷ ns) h =
    ap (λ (r : List (List ℕ)). map number_back r)
    (cut-free 44 (decimal n) [] (comma_before (map decimal ns)) (comma-free n h.0) ∙ cut-more (decimal n) ns h.1)
    ∙ back-numbers (n ∷ ns) h

pub clear-append : (a b : List ℕ) → is_clear a ≡ true → is_clear b ≡ true → is_clear (a ++ b) ≡ true
clear-append [] b h g = g
clear-append (x ∷ xs) b h g = let p = parts-clear x xs h in rw (p.0, p.1) (clear-append xs b p.2 g)

clear-more : (ns : List ℕ) → AreNumbers ns → is_clear (comma_before (map decimal ns)) ≡ true
clear-more [] h = refl
clear-more (n ∷ ns) h =
    clear-append (decimal n) (comma_before (map decimal ns)) (clear-number n h.0) (clear-more ns h.1)

pub clear-lens : (ns : List ℕ) → AreLens ns → is_clear (lens_text ns) ≡ true
clear-lens [] h = absurd h
clear-lens (n ∷ ns) h =
    clear-append (decimal n) (comma_before (map decimal ns)) (clear-number n h.0) (clear-more ns h.1)

pub back-framing : (fi : ℕ) → fi < 4 → framing_back (framing_text fi) ≡ fi
back-framing zero h = refl
back-framing (suc zero) h = refl
back-framing (suc (suc zero)) h = refl
back-framing (suc (suc (suc zero))) h = refl
back-framing (suc (suc (suc (suc n)))) h = absurd (omega (arith, h))

pub clear-framing : (fi : ℕ) → fi < 4 → is_clear (framing_text fi) ≡ true
clear-framing zero h = refl
clear-framing (suc zero) h = refl
clear-framing (suc (suc zero)) h = refl
clear-framing (suc (suc (suc zero))) h = refl
clear-framing (suc (suc (suc (suc n)))) h = absurd (omega (arith, h))
