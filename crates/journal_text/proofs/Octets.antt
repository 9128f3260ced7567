-- Octets that are written as they were read.
use Rattle.std.proofs.Common.{◌≡◌, ◌<◌, ◌+◌, ◌*◌, ◌^◌, ◌/◌, ◌%◌, ◌==◌, ◌∙◌, ℕ, zero, suc, List, [], ◌∷◌, true, false}
use Rattle.std.proofs.Common.{Bool, if◌then◌else◌, length, nat_lt, slice_index, Some, None, Option, Ok, refl, sym, ap}
use Rattle.std.proofs.Common.{subst}
use Rattle.std.proofs.Common.{Result, Err, MatchResult, codes, ◌&&◌}
use Rattle.std.specs.Str.{bytes_eq}
use Rattle.hex.specs.Hex.{IsBytes}
use Rattle.air_record.specs.Text.{bitmap_text}
use Rattle.journal_text.proofs.Cuts.{is_free, free-parts}
use Rattle.hex.specs.declared.error.FromHexError.{FromHexError}
use Rattle.std.proofs.Common.{arith, rules}
use Rattle.std.specs.List.{list_all}
use Rattle.std.proofs.lemmas.Bool.{and_parts}
use Rattle.hex.specs.Hex.{decode_of, decode_sized, encode_lower, encode_with, hex_digit_value, lower_digits}
use Rattle.hex.proofs.HexLemmas.{decode_of-ok, decode_sized-ok, decode_sized-twice, length-encode_with}
use Rattle.hex.proofs.HexLemmas.{decode_of-encode_lower, decode_sized-encode_lower}
use Rattle.text_digits.specs.Pairs.{with_pair, is_no_capital}
use Rattle.text_digits.proofs.DecodeLaws.{Says, says-decoded}
use Rattle.journal_text.specs.Fields.{octets_in, octets_of, array_of, bitmap_of}
use Rattle.journal_text.specs.Answers.{none}
use Rattle.journal_text.specs.Records.{AreOctets, IsArray}

-- the digits of lower case
digit_at : (v : ℕ) → v < 16 → slice_index lower_digits v ≡ (if nat_lt v 10 then 48 + v else 87 + v)
digit_at zero small = refl
digit_at (suc zero) small = refl
digit_at (suc (suc zero)) small = refl
digit_at (suc (suc (suc zero))) small = refl
digit_at (suc (suc (suc (suc zero)))) small = refl
digit_at (suc (suc (suc (suc (suc zero))))) small = refl
digit_at (suc (suc (suc (suc (suc (suc zero)))))) small = refl
digit_at (suc (suc (suc (suc (suc (suc (suc zero))))))) small = refl
digit_at (suc (suc (suc (suc (suc (suc (suc (suc zero)))))))) small = refl
digit_at (suc (suc (suc (suc (suc (suc (suc (suc (suc zero))))))))) small = refl
digit_at (suc (suc (suc (suc (suc (suc (suc (suc (suc (suc zero)))))))))) small = refl
digit_at (suc (suc (suc (suc (suc (suc (suc (suc (suc (suc (suc zero))))))))))) small = refl
digit_at (suc (suc (suc (suc (suc (suc (suc (suc (suc (suc (suc (suc zero)))))))))))) small = refl
digit_at (suc (suc (suc (suc (suc (suc (suc (suc (suc (suc (suc (suc (suc zero))))))))))))) small = refl
digit_at (suc (suc (suc (suc (suc (suc (suc (suc (suc (suc (suc (suc (suc (suc zero)))))))))))))) small = refl
digit_at (suc (suc (suc (suc (suc (suc (suc (suc (suc (suc (suc (suc (suc (suc (suc zero))))))))))))))) small = refl
digit_at (suc (suc (suc (suc (suc (suc (suc (suc (suc (suc (suc (suc (suc (suc (suc (suc v)))))))))))))))) small =
    absurd (omega (arith, small))

-- a digit that is no capital is that of its value
digit_of : (x v : ℕ) → is_no_capital x ≡ true → hex_digit_value x ≡ Some v
    → (v < 16) × ((if nat_lt v 10 then 48 + v else 87 + v) ≡ x)
digit_of x v low h = (grind (arith, low, h), grind (arith, low, h))

digit_again : (x v : ℕ) → is_no_capital x ≡ true → hex_digit_value x ≡ Some v
    → (v < 16) × (slice_index lower_digits v ≡ x)
digit_again x v low h = let p = digit_of x v low h in (p.0, digit_at v p.0 ∙ p.1)

-- a pair of digits
pair_again : (x y h l : ℕ) (octets rest : List ℕ) → (h < 16) × (slice_index lower_digits h ≡ x)
    → (l < 16) × (slice_index lower_digits l ≡ y) → encode_lower octets ≡ rest
    → encode_lower ((h * 16 + l) ∷ octets) ≡ x ∷ y ∷ rest
unfolding encode_with
pair_again x y h l octets rest p q r =
    let high : (h * 16 + l) / 16 ≡ h = omega (arith, q.0) in
    let low : (h * 16 + l) % 16 ≡ l = omega (arith, q.0) in
    rw (high, low, p.1, q.1, r) refl

-- the digits of a pair, and those behind
by_parts : (x y : ℕ) (rest octets : List ℕ) (o p : Option ℕ) (q : Option (List ℕ)) → hex_digit_value x ≡ o
    → hex_digit_value y ≡ p → is_no_capital x ≡ true → is_no_capital y ≡ true
    → ((more : List ℕ) → q ≡ Some more → encode_lower more ≡ rest) → with_pair o p q ≡ Some octets
    → encode_lower octets ≡ x ∷ y ∷ rest
by_parts x y rest octets (Some h) (Some l) (Some more) e f a b again whole =
    let same : (h * 16 + l) ∷ more ≡ octets = cc in
    ap encode_lower (sym same)
    ∙ pair_again x y h l more rest (digit_again x h a e) (digit_again y l b f) (again more refl)
by_parts x y rest octets (Some h) (Some l) None e f a b again whole = cc
by_parts x y rest octets (Some h) None q e f a b again whole = cc
by_parts x y rest octets None p q e f a b again whole = cc

-- what pairs of digits say, as decoding does
pub record IsPairs (pairs : List ℕ → Option (List ℕ)) : Type 0 where
  pub says : (text : List ℕ) → Says (decode_of text) (pairs text)
  pub nothing : pairs [] ≡ Some []
  pub single : (x : ℕ) → pairs (x ∷ []) ≡ None
  pub pair : (x y : ℕ) (rest : List ℕ)
      → pairs (x ∷ y ∷ rest) ≡ with_pair (hex_digit_value x) (hex_digit_value y) (pairs rest)

pub as_pairs : (pairs : List ℕ → Option (List ℕ)) × IsPairs pairs
as_pairs = (
  _,
  record {
    says = says-decoded;
    nothing = refl;
    single = λ x. refl;
    pair = λ x y rest. refl;
  },
)

pairs_again : (pairs : List ℕ → Option (List ℕ)) → IsPairs pairs → (text octets : List ℕ)
    → list_all is_no_capital text ≡ true → pairs text ≡ Some octets → encode_lower octets ≡ text
unfolding encode_with
pairs_again pairs p [] octets low h = let e : Some [] ≡ Some octets = sym p.nothing ∙ h in
    let same : [] ≡ octets = cc in rw (← same) refl
pairs_again pairs p (x ∷ []) octets low h = let e : None ≡ Some octets = sym (p.single x) ∙ h in cc
pairs_again pairs p (x ∷ y ∷ rest) octets low h =
    let first = and_parts (is_no_capital x) (list_all is_no_capital (y ∷ rest)) low in
    let second = and_parts (is_no_capital y) (list_all is_no_capital rest) first.1 in
    by_parts x y rest octets (hex_digit_value x) (hex_digit_value y) (pairs rest) refl refl first.0 second.0
    (λ more e. pairs_again pairs p rest more second.1 e) (sym (p.pair x y rest) ∙ h)

decoded_again : (text octets : List ℕ) → list_all is_no_capital text ≡ true → decode_of text ≡ Ok octets
    → encode_lower octets ≡ text
decoded_again text octets low h =
    pairs_again as_pairs.0 as_pairs.1 text octets low
    (subst (λ (d : Result (List ℕ) FromHexError). Says d (as_pairs.0 text)) h (as_pairs.1.says text))

-- what was read is what a text decodes to
read_hex : (d : Result (List ℕ) FromHexError) (good : Bool) (out : List ℕ)
    → MatchResult d (λ read. (good ≡ true) × (out ≡ read)) (λ _. good ≡ false) → good ≡ true → d ≡ Ok out
read_hex (Ok read) good out says is = ap Ok (sym says.1)
read_hex (Err e) good out says is = cc

read_slice : (d : Result (List ℕ) FromHexError) (r : Result Unit FromHexError) (out : List ℕ)
    → MatchResult d (λ read. (r ≡ Ok tt) × (out ≡ read)) (λ e. r ≡ Err e) → r ≡ Ok tt → d ≡ Ok out
read_slice (Ok read) r out says is = ap Ok (sym says.1)
read_slice (Err e) r out says is = cc

-- what reading digits of lower case answered, and left
abbrev pub ReadsLower : List ℕ → Bool → List ℕ → Type 0
ReadsLower text good octets = (list_all is_no_capital text ≡ true
    → MatchResult (decode_of text) (λ read. (good ≡ true) × (octets ≡ read)) (λ _. good ≡ false))
    × (list_all is_no_capital text ≡ false → good ≡ false)

lower-read : (low : Bool) (d : Result (List ℕ) FromHexError) (good : Bool) (octets : List ℕ)
    → (low ≡ true → MatchResult d (λ read. (good ≡ true) × (octets ≡ read)) (λ _. good ≡ false))
    → (low ≡ false → good ≡ false) → good ≡ true → (low ≡ true) × (d ≡ Ok octets)
lower-read true d good octets says capital is = (refl, read_hex d good octets (says refl) is)
lower-read false d good octets says capital is = let none = capital refl in cc

lower-none : (low : Bool) (d : Result (List ℕ) FromHexError) (good : Bool) (octets : List ℕ)
    → (low ≡ true → MatchResult d (λ read. (good ≡ true) × (octets ≡ read)) (λ _. good ≡ false))
    → good ≡ false → (if low then octets_in d else none) ≡ none
lower-none true (Ok read) good octets says is = let both = says refl in let yes = both.0 in cc
lower-none true (Err e) good octets says is = refl
lower-none false d good octets says is = refl

pub octets_told : (text octets : List ℕ) (good : Bool) → 0 < length text → ReadsLower text good octets → good ≡ true
    → octets_of text ≡ Ok octets
unfolding octets_of
octets_told text octets good some reads is =
    let read = lower-read (list_all is_no_capital text) (decode_of text) good octets reads.0 reads.1 is in
    let long : (length text == 0) ≡ false = grind (arith, some) in
    rw (long, read.0, read.1) refl

pub octets_refused : (text octets : List ℕ) (good : Bool) → 0 < length text → ReadsLower text good octets
    → good ≡ false → octets_of text ≡ none
unfolding octets_of
octets_refused text octets good some reads is =
    let long : (length text == 0) ≡ false = grind (arith, some) in
    rw long (lower-none (list_all is_no_capital text) (decode_of text) good octets reads.0 is)

pub octets_exact : (text octets : List ℕ) (good : Bool) → 0 < length text → ReadsLower text good octets → good ≡ true
    → (encode_lower octets ≡ text) × AreOctets octets
octets_exact text octets good some reads is =
    let low = lower-read (list_all is_no_capital text) (decode_of text) good octets reads.0 reads.1 is in
    let read = decode_of-ok text octets low.1 in
    (decoded_again text octets low.0 low.1, (read.3, omega (arith, read.2, some)))

pub array_exact : (n m : ℕ) (text octets : List ℕ) (r : Result Unit FromHexError) → m ≡ n
    → list_all is_no_capital text ≡ true
    → MatchResult (decode_sized text m) (λ read. (r ≡ Ok tt) × (octets ≡ read)) (λ e. r ≡ Err e) → r ≡ Ok tt
    → (encode_lower octets ≡ text) × IsArray n octets
array_exact n m text octets r same low says is =
    let h = read_slice (decode_sized text m) r octets says is in
    let twice = decode_sized-ok text m octets h in
    let whole : decode_of text ≡ Ok octets = sym (decode_sized-twice text m twice) ∙ h in
    let read = decode_of-ok text octets whole in
    (decoded_again text octets low whole, (read.3, omega (arith, read.2, twice, same)))

-- ---- octets read back from their digits, among which no space stands

of-table : (t : List ℕ) → list_all is_no_capital t ≡ true → (i : ℕ) → is_no_capital (slice_index t i) ≡ true
of-table [] h i = refl
of-table (x ∷ xs) h zero = (and_parts (is_no_capital x) (list_all is_no_capital xs) h).0
of-table (x ∷ xs) h (suc i) = of-table xs (and_parts (is_no_capital x) (list_all is_no_capital xs) h).1 i

no-capital : (i : ℕ) → is_no_capital (slice_index lower_digits i) ≡ true
no-capital i = of-table lower_digits refl i

digits-low : (xs : List ℕ) → list_all is_no_capital (encode_lower xs) ≡ true
unfolding encode_with
digits-low [] = refl
digits-low (b ∷ rest) = rw (no-capital (b / 16), no-capital (b % 16)) (digits-low rest)

free-place : (t : List ℕ) → is_free 32 t ≡ true → (i : ℕ) → (slice_index t i == 32) ≡ false
free-place [] h i = refl
free-place (x ∷ xs) h zero = (free-parts 32 x xs h).0
free-place (x ∷ xs) h (suc i) = free-place xs (free-parts 32 x xs h).1 i

pub octets-free : (xs : List ℕ) → is_free 32 (encode_lower xs) ≡ true
unfolding encode_with
octets-free [] = refl
octets-free (b ∷ rest) =
    rw (free-place lower_digits refl (b / 16), free-place lower_digits refl (b % 16)) (octets-free rest)

pub bitmap-free : (xs : List ℕ) → is_free 32 (bitmap_text xs) ≡ true
bitmap-free [] = refl
bitmap-free (x ∷ xs) = octets-free (x ∷ xs)

pub octets-back : (xs : List ℕ) → AreOctets xs → octets_of (encode_lower xs) ≡ Ok xs
unfolding octets_of
octets-back xs h =
    let some : (length (encode_lower xs) == 0) ≡ false =
    grind (arith, length-encode_with lower_digits xs, h.1) in
    rw (some, digits-low xs, decode_of-encode_lower xs h.0) refl

pub array-back : (n : ℕ) (xs : List ℕ) → IsArray n xs → array_of n (encode_lower xs) ≡ Ok xs
unfolding array_of
array-back n xs h = rw (digits-low xs, decode_sized-encode_lower xs n h.1 h.0) refl

and-false : (b : Bool) → (b && false) ≡ false
and-false true = refl
and-false false = refl

-- two digits at least are no -
two-digits : (a b : ℕ) (rest : List ℕ) → bytes_eq (a ∷ b ∷ rest) (codes "-") ≡ false
two-digits a b rest = search (rules, and-false (a == 45))

pub bitmap-back : (xs : List ℕ) → IsBytes xs → bitmap_of (bitmap_text xs) ≡ Ok xs
unfolding bitmap_of encode_with
bitmap-back [] h = refl
bitmap-back (x ∷ xs) h =
    rw (two-digits _ _ (encode_lower xs)) (octets-back (x ∷ xs) (h, omega arith))

pub four_octets : (a b c d : ℕ) → a < 2 ^ 8 → b < 2 ^ 8 → c < 2 ^ 8 → d < 2 ^ 8 → (i : ℕ)
    → slice_index (a ∷ b ∷ c ∷ d ∷ []) i < 256
four_octets a b c d h g f e zero = h
four_octets a b c d h g f e (suc zero) = g
four_octets a b c d h g f e (suc (suc zero)) = f
four_octets a b c d h g f e (suc (suc (suc zero))) = e
four_octets a b c d h g f e (suc (suc (suc (suc i)))) = omega arith
