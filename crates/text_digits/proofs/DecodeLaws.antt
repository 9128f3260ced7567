-- Pairs of digits, part by part, and as `hex` decodes them.
use Rattle.std.proofs.Common.{◌≡◌, ◌+◌, ◌*◌, ◌/◌, ◌%◌, ◌==◌, ◌∙◌, ℕ, Bool, true, false, List, [], ◌∷◌, ◌++◌, length}
use Rattle.std.proofs.Common.{take, drop, Option, Some, None, Result, Ok, Err, refl, sym, ap, arith, append_assoc}
use Rattle.std.proofs.Common.{if◌then◌else◌, zero, suc, replicate}
use Rattle.std.specs.Prelude.{MatchResult, MatchOption}
use Rattle.std.proofs.lemmas.List.{take-append-drop, take_at}
use Rattle.hex.specs.Hex.{hex_digit_value, decode_of, decode_pairs, digit_or_error, ◌>>=◌}
use Rattle.hex.specs.declared.error.FromHexError.{FromHexError}
use Rattle.hex.specs.declared.error.FromHexError.TheVariants.{OddLength}
use Rattle.text_digits.specs.Pairs.{with_pair, pairs, onto, both, digit_value, is_no_capital}
use Rattle.text_digits.specs.declared.reading.Letters.{Letters}
use Rattle.text_digits.specs.declared.reading.Letters.TheVariants.{Either, Lower}
use Rattle.std.specs.List.{list_all}
use Rattle.std.proofs.Common.{◌&&◌, subst}
use Rattle.std.proofs.lemmas.Bool.{and_parts}

pub with-none : (o : Option ℕ) (rest : Option (List ℕ)) → with_pair o None rest ≡ None
with-none (Some v) rest = refl
with-none None rest = refl

pub with-nothing : (o p : Option ℕ) → with_pair o p None ≡ None
with-nothing (Some v) (Some w) = refl
with-nothing (Some v) None = refl
with-nothing None p = refl

with-both : (o p : Option ℕ) (a b : Option (List ℕ)) → with_pair o p (both a b) ≡ both (with_pair o p a) b
with-both (Some v) (Some w) (Some xs) (Some ys) = refl
with-both (Some v) (Some w) (Some xs) None = refl
with-both (Some v) (Some w) None b = refl
with-both (Some v) None a b = refl
with-both None p a b = refl

-- an even number of digits, and then others
pub pairs-append : (letters : Letters) (a b : List ℕ) → length a % 2 ≡ 0
    → pairs letters (a ++ b) ≡ both (pairs letters a) (pairs letters b)
pairs-append letters [] b even = first (pairs letters b)
  where
    first : (o : Option (List ℕ)) → o ≡ both (Some []) o
    first None = refl
    first (Some xs) = refl
pairs-append letters (x ∷ []) b even = absurd (omega (arith, even))
pairs-append letters (x ∷ y ∷ rest) b even =
    ap (with_pair (digit_value letters x) (digit_value letters y)) (pairs-append letters rest b (omega (arith, even)))
    ∙ with-both (digit_value letters x) (digit_value letters y) (pairs letters rest) (pairs letters b)

-- a text by its first digits and what is behind them
pub pairs-split : (letters : Letters) (k : ℕ) (xs : List ℕ) → length (take k xs) % 2 ≡ 0
    → pairs letters xs ≡ both (pairs letters (take k xs)) (pairs letters (drop k xs))
pairs-split letters k xs even =
    ap (pairs letters) (sym (take-append-drop k xs)) ∙ pairs-append letters (take k xs) (drop k xs) even

-- what was read of a text so far, and what is read next
pub onto-more : (octets : List ℕ) (a b : Option (List ℕ)) (read : List ℕ) → a ≡ Some read
    → onto octets (both a b) ≡ onto (octets ++ read) b
onto-more octets (Some xs) (Some ys) read is = let same : xs ≡ read = cc in
    rw same (ap Some (sym (append_assoc octets read ys)))
onto-more octets (Some xs) None read is = refl
onto-more octets None b read is = cc

pub onto-none : (octets : List ℕ) (a b : Option (List ℕ)) → a ≡ None → onto octets (both a b) ≡ None
onto-none octets None b is = refl
onto-none octets (Some xs) b is = cc

-- decoding says the same
abbrev pub Says : Result (List ℕ) FromHexError → Option (List ℕ) → Type 0
Says decoded o = MatchResult decoded (λ xs. o ≡ Some xs) (λ _. o ≡ None)

says-pair : (x y i : ℕ) (o p : Option ℕ) (rest : Result (List ℕ) FromHexError) (q : Option (List ℕ)) → Says rest q
    → Says ((digit_or_error x i o >>= λ h. digit_or_error y (i + 1) p >>= λ l. Ok (h * 16 + l)) >>= λ byte. rest >>=
    λ bytes. Ok (byte ∷ bytes)) (with_pair o p q)
says-pair x y i (Some v) (Some w) (Ok xs) q says = rw says refl
says-pair x y i (Some v) (Some w) (Err e) q says = rw says refl
says-pair x y i (Some v) None rest q says = refl
says-pair x y i None p rest q says = refl

pub says-pairs : (i : ℕ) (xs : List ℕ) → Says (decode_pairs i xs) (pairs Either xs)
unfolding decode_pairs
says-pairs i [] = refl
says-pairs i (x ∷ []) = refl
says-pairs i (x ∷ y ∷ rest) =
    says-pair x y i (hex_digit_value x) (hex_digit_value y) (decode_pairs (i + 2) rest) (pairs Either rest)
    (says-pairs (i + 2) rest)

odd-none : (letters : Letters) (xs : List ℕ) → length xs % 2 ≡ 1 → pairs letters xs ≡ None
odd-none letters [] odd = absurd (omega (arith, odd))
odd-none letters (x ∷ []) odd = refl
odd-none letters (x ∷ y ∷ rest) odd =
    rw (odd-none letters rest (omega (arith, odd))) (with-nothing (digit_value letters x) (digit_value letters y))

pub says-decoded : (xs : List ℕ) → Says (decode_of xs) (pairs Either xs)
says-decoded xs = elim (length xs % 2 == 1) as (λ (b : Bool). (length xs % 2 == 1) ≡ b
    → Says (if b then Err OddLength else decode_pairs 0 xs) (pairs Either xs)) [
      | true ↦ λ odd. odd-none Either xs (grind (arith, odd))
      | false ↦ λ even. says-pairs 0 xs
    ] refl

-- ---- digits with zeros behind

length-with : (p q : Option ℕ) (r : Option (List ℕ)) (octets : List ℕ) (n : ℕ)
    → ((rest : List ℕ) → r ≡ Some rest → length rest ≡ n)
    → with_pair p q r ≡ Some octets → length octets ≡ suc n
length-with (Some v) (Some w) (Some rest) octets n behind is = let same : (v * 16 + w) ∷ rest ≡ octets = cc in
    ap length (sym same) ∙ ap suc (behind rest refl)
length-with (Some v) (Some w) None octets n behind is = cc
length-with (Some v) None r octets n behind is = cc
length-with None q r octets n behind is = cc

length-pairs : (letters : Letters) (xs octets : List ℕ) → pairs letters xs ≡ Some octets
    → length octets ≡ length xs / 2
length-pairs letters [] octets is = let same : [] ≡ octets = cc in ap length (sym same)
length-pairs letters (x ∷ []) octets is = cc
length-pairs letters (x ∷ y ∷ rest) octets is =
    length-with (digit_value letters x) (digit_value letters y) (pairs letters rest) octets (length rest / 2)
    (λ read here. length-pairs letters rest read here) is ∙ (omega arith)

first-read : (a b : Option (List ℕ)) (n : ℕ) (read : List ℕ)
    → ((octets : List ℕ) → a ≡ Some octets → length octets ≡ n) → both a b ≡ Some read
    → a ≡ Some (take n read)
first-read None b n read long is = cc
first-read (Some octets) None n read long is = cc
first-read (Some octets) (Some more) n read long is = let same : octets ++ more ≡ read = cc in
    ap Some (sym (take_at octets more n (long octets refl)) ∙ ap (take n) same)

zero-value : (letters : Letters) → digit_value letters 48 ≡ Some 0
zero-value Either = refl
zero-value Lower = refl

zeros-read : (letters : Letters) (m : ℕ) → pairs letters (replicate (2 * m) 48) ≡ Some (replicate m 0)
zeros-read letters zero = refl
zeros-read letters (suc m) = let next : 2 * suc m ≡ suc (suc (2 * m)) = omega arith in
    rw (next, zero-value letters, zeros-read letters m) refl

none-first : (a b : Option (List ℕ)) (more : List ℕ) → b ≡ Some more → both a b ≡ None → a ≡ None
none-first None b more some is = refl
none-first (Some octets) b more some is = let none : onto octets (Some more) ≡ None = rw some at is in cc

-- the answer for fewer digits, by that for a block that goes on with zeros
pub few-good : (letters : Letters) (xs block octets read new : List ℕ) (k : ℕ) → length xs % 2 ≡ 0
    → block ≡ xs ++ replicate k 48 → pairs letters block ≡ Some read
    → new ≡ octets ++ take (length xs / 2) read
    → MatchOption (pairs letters xs) (true ≡ false) (λ few. (true ≡ true) × (new ≡ octets ++ few))
few-good letters xs block octets read new k even is some added =
    let whole : both (pairs letters xs) (pairs letters (replicate k 48)) ≡ Some read =
    sym (pairs-append letters xs (replicate k 48) even) ∙ ap (pairs letters) (sym is) ∙ some in
    rw (first-read (pairs letters xs) (pairs letters (replicate k 48)) (length xs / 2) read (length-pairs letters xs)
    whole) (refl, added)

pub few-bad : (letters : Letters) (xs block octets new : List ℕ) (k : ℕ) → length xs % 2 ≡ 0 → k % 2 ≡ 0
    → block ≡ xs ++ replicate k 48 → pairs letters block ≡ None
    → MatchOption (pairs letters xs) (false ≡ false) (λ few. (false ≡ true) × (new ≡ octets ++ few))
few-bad letters xs block octets new k even rest is none =
    let half : k ≡ 2 * (k / 2) = omega (arith, rest) in
    let zeros : pairs letters (replicate k 48) ≡ Some (replicate (k / 2) 0) =
    ap (λ (n : ℕ). pairs letters (replicate n 48)) half ∙ zeros-read letters (k / 2) in
    let whole : both (pairs letters xs) (pairs letters (replicate k 48)) ≡ None =
    sym (pairs-append letters xs (replicate k 48) even) ∙ ap (pairs letters) (sym is) ∙ none in
    rw (none-first (pairs letters xs) (pairs letters (replicate k 48)) (replicate (k / 2) 0) zeros whole) refl

pub few-odd : (letters : Letters) (xs octets new : List ℕ) → length xs % 2 ≡ 1
    → MatchOption (pairs letters xs) (false ≡ false) (λ few. (false ≡ true) × (new ≡ octets ++ few))
few-odd letters xs octets new odd = rw (odd-none letters xs odd) refl

-- ---- the whole text

-- what reading a text has to answer, and leave
abbrev pub Reads : Option (List ℕ) → Bool → List ℕ → Type 0
Reads said good octets = MatchOption said (good ≡ false) (λ read. (good ≡ true) × (octets ≡ read))

pub none-read : (o : Option (List ℕ)) → o ≡ onto [] o
none-read None = refl
none-read (Some xs) = refl

pub bad-text : (letters : Letters) (xs : List ℕ) (good : Bool) (octets : List ℕ) → pairs letters xs ≡ None
    → good ≡ false → Reads (pairs letters xs) good octets
bad-text letters xs good octets none is = rw none is

-- a block was read behind the octets of those before, or it says none
pub block-read : (letters : Letters) (xs rest block behind octets read : List ℕ) → block ≡ take 64 rest
    → behind ≡ drop 64 rest → length block ≡ 64 → pairs letters block ≡ Some read
    → pairs letters xs ≡ onto octets (pairs letters rest)
    → pairs letters xs ≡ onto (octets ++ read) (pairs letters behind)
block-read letters xs rest block behind octets read front back long some so-far =
    so-far ∙ ap (onto octets) (pairs-split letters 64 rest (rw (← front) (omega (arith, long))))
    ∙ rw (← front, ← back) (onto-more octets (pairs letters block) (pairs letters behind) read some)

pub block-none : (letters : Letters) (xs rest block behind octets : List ℕ) → block ≡ take 64 rest
    → behind ≡ drop 64 rest → length block ≡ 64 → pairs letters block ≡ None
    → pairs letters xs ≡ onto octets (pairs letters rest) → pairs letters xs ≡ None
block-none letters xs rest block behind octets front back long none so-far =
    so-far ∙ ap (onto octets) (pairs-split letters 64 rest (rw (← front) (omega (arith, long))))
    ∙ rw (← front, ← back) (onto-none octets (pairs letters block) (pairs letters behind) none)

-- the last digits were read behind the octets of those before
pub last-read : (letters : Letters) (xs rest before octets : List ℕ) (good : Bool)
    → pairs letters xs ≡ onto before (pairs letters rest)
    → MatchOption (pairs letters rest) (good ≡ false) (λ few. (good ≡ true) × (octets ≡ before ++ few))
    → Reads (pairs letters xs) good octets
last-read letters xs rest before octets good so-far last = rw so-far (by (pairs letters rest) last)
  where
    by : (o : Option (List ℕ))
        → MatchOption o (good ≡ false) (λ few. (good ≡ true) × (octets ≡ before ++ few))
        → Reads (onto before o) good octets
    by None last = last
    by (Some few) last = last

-- ---- as `hex` decodes a text

decoded-by : (decoded : Result (List ℕ) FromHexError) (said : Option (List ℕ)) (good : Bool) (octets : List ℕ)
    → Says decoded said → Reads said good octets
    → MatchResult decoded (λ read. (good ≡ true) × (octets ≡ read)) (λ _. good ≡ false)
decoded-by (Ok read) said good octets says reads = subst (λ (o : Option (List ℕ)). Reads o good octets) says reads
decoded-by (Err e) said good octets says reads = subst (λ (o : Option (List ℕ)). Reads o good octets) says reads

pub decoded : (xs : List ℕ) (good : Bool) (octets : List ℕ) → Reads (pairs Either xs) good octets
    → MatchResult (decode_of xs) (λ read. (good ≡ true) × (octets ≡ read)) (λ _. good ≡ false)
decoded xs good octets = decoded-by (decode_of xs) (pairs Either xs) good octets (says-decoded xs)

-- ---- lower case alone

value-lower : (x : ℕ) → is_no_capital x ≡ true → digit_value Lower x ≡ digit_value Either x
value-lower x low = rw low refl

pub pairs-lower : (xs : List ℕ) → list_all is_no_capital xs ≡ true → pairs Lower xs ≡ pairs Either xs
pairs-lower [] low = refl
pairs-lower (x ∷ []) low = refl
pairs-lower (x ∷ y ∷ rest) low =
    let first = and_parts (is_no_capital x) (list_all is_no_capital (y ∷ rest)) low in
    let second = and_parts (is_no_capital y) (list_all is_no_capital rest) first.1 in
    rw (value-lower x first.0, value-lower y second.0, pairs-lower rest second.1) refl

pub pairs-capital : (xs : List ℕ) → list_all is_no_capital xs ≡ false → pairs Lower xs ≡ None
pairs-capital [] some = cc
pairs-capital (x ∷ []) some = refl
pairs-capital (x ∷ y ∷ rest) some =
    by (is_no_capital x) (is_no_capital y) some (pairs-capital rest)
  where
    by : (a b : Bool) → (a && (b && list_all is_no_capital rest)) ≡ false
        → (list_all is_no_capital rest ≡ false → pairs Lower rest ≡ None)
        → with_pair (if a then hex_digit_value x else None) (if b then hex_digit_value y else None) (pairs Lower rest)
        ≡ None
    by false b some behind = refl
    by true false some behind = with-none (hex_digit_value x) (pairs Lower rest)
    by true true some behind = rw (behind some) (with-nothing (hex_digit_value x) (hex_digit_value y))

pub lower-decoded : (xs : List ℕ) (good : Bool) (octets : List ℕ) → Reads (pairs Lower xs) good octets
    → list_all is_no_capital xs ≡ true
    → MatchResult (decode_of xs) (λ read. (good ≡ true) × (octets ≡ read)) (λ _. good ≡ false)
lower-decoded xs good octets reads low =
    decoded xs good octets (subst (λ (o : Option (List ℕ)). Reads o good octets) (pairs-lower xs low) reads)

pub capital-refused : (xs : List ℕ) (good : Bool) (octets : List ℕ) → Reads (pairs Lower xs) good octets
    → list_all is_no_capital xs ≡ false → good ≡ false
capital-refused xs good octets reads some =
    subst (λ (o : Option (List ℕ)). Reads o good octets) (pairs-capital xs some) reads
