-- The text of a TTI in a terminal's own script.
use Rattle.std.proofs.Common.{◌≡◌, ◌<◌, ◌≤◌, ◌==◌, ◌∙◌, ℕ, zero, suc, List, [], ◌∷◌, ◌++◌, refl, ap, arith}
use Rattle.std.proofs.Common.{true, false}
use Rattle.std.proofs.Common.{Bool, length, slice_index, rules}
use Rattle.std.specs.Prelude.{codes}
use Rattle.std.specs.Fmt.{decimal}
use Rattle.std.specs.List.{All, list_all}
use Rattle.std.proofs.lemmas.List.{length-append}
use Rattle.std.proofs.lemmas.Fmt.{digits_decimal, decimal_nonempty, length-decimal-le}
use Rattle.std.proofs.lemmas.Str.Parse.{IsNumeralModel, numerals_by_fold}
use Rattle.air_record.specs.Text.{fate_text}
use Rattle.air_record.specs.declared.line.Fate.{Fate}
use Rattle.air_record.specs.declared.line.Fate.TheVariants as fates
use Rattle.air_record.specs.declared.line.Line.TheVariants.{Tti}
use Rattle.air_record.specs.declared.line.Outcome.{Outcome}
use Rattle.air_text.specs.Reading.{read_words}
use Rattle.air_text.specs.Words.{words_of}
use Rattle.air_text.proofs.LinesBack.{back-line}
use Rattle.l2_types.specs.declared.limits.TheConstants.{GREATEST_GRANT}
use Rattle.script_generator.proofs.Texts.{has_no, no-both, word-more, word-last, says-by}
use Rattle.script_generator.specs.Lines.{Says}
use Rattle.text_digits.specs.Numerals.{is_digit, value_behind}

own-digits : IsNumeralModel (λ ds. list_all is_digit ds ≡ true) (value_behind 0)
own-digits = numerals_by_fold _ (search rules) value_behind (search (rules, arith))

digits-free : (o : ℕ) (ds : List ℕ) → o < 48 → list_all is_digit ds ≡ true → has_no o ds ≡ true
digits-free o [] small h = refl
digits-free o (x ∷ xs) small h =
    let first : is_digit x ≡ true = search (rules, h) in
    let other : (x == o) ≡ false = grind (arith, first, small) in
    rw other (digits-free o xs small (search (rules, h)))

number-free : (o n : ℕ) → o < 48 → n ≤ 9422 → has_no o (decimal n) ≡ true
number-free o n small few = digits-free o (decimal n) small (digits_decimal own-digits n (omega (arith, few)))

fate-free : (o : ℕ) (fate : Fate) (flipped : Bool) → o < 48 → has_no o (fate_text fate flipped) ≡ true
fate-free o fates.Ok false small = let a : (111 == o) ≡ false = grind (arith, small) in
    let b : (107 == o) ≡ false = grind (arith, small) in rw (a, b) refl
fate-free o fates.Ok true small = let a : (111 == o) ≡ false = grind (arith, small) in
    let b : (107 == o) ≡ false = grind (arith, small) in
    let c : (126 == o) ≡ false = grind (arith, small) in rw (a, b, c) refl
fate-free o fates.Bad false small = let a : (98 == o) ≡ false = grind (arith, small) in
    let b : (97 == o) ≡ false = grind (arith, small) in
    let c : (100 == o) ≡ false = grind (arith, small) in rw (a, b, c) refl
fate-free o fates.Bad true small = let a : (98 == o) ≡ false = grind (arith, small) in
    let b : (97 == o) ≡ false = grind (arith, small) in
    let c : (100 == o) ≡ false = grind (arith, small) in
    let d : (126 == o) ≡ false = grind (arith, small) in rw (a, b, c, d) refl
fate-free o fates.Miss false small = let a : (109 == o) ≡ false = grind (arith, small) in
    let b : (105 == o) ≡ false = grind (arith, small) in
    let c : (115 == o) ≡ false = grind (arith, small) in rw (a, b, c) refl
fate-free o fates.Miss true small = let a : (109 == o) ≡ false = grind (arith, small) in
    let b : (105 == o) ≡ false = grind (arith, small) in
    let c : (115 == o) ≡ false = grind (arith, small) in
    let d : (126 == o) ≡ false = grind (arith, small) in rw (a, b, c, d) refl

fate-some : (fate : Fate) (flipped : Bool) → 0 < length (fate_text fate flipped)
fate-some fates.Ok false = omega arith
fate-some fates.Ok true = omega arith
fate-some fates.Bad false = omega arith
fate-some fates.Bad true = omega arith
fate-some fates.Miss false = omega arith
fate-some fates.Miss true = omega arith

fate-short : (fate : Fate) (flipped : Bool) → length (fate_text fate flipped) ≤ 5
fate-short fates.Ok false = omega arith
fate-short fates.Ok true = omega arith
fate-short fates.Bad false = omega arith
fate-short fates.Bad true = omega arith
fate-short fates.Miss false = omega arith
fate-short fates.Miss true = omega arith

-- four words behind `tti`
abbrev tti_text : List ℕ → List ℕ → List ℕ → List ℕ → List ℕ
tti_text a b c d = codes "tti" ++ 32 ∷ (a ++ 32 ∷ (b ++ 32 ∷ (c ++ 32 ∷ d)))

record IsField (o : ℕ) (w : List ℕ) : Type 0 where
  free : has_no o w ≡ true
  some : 0 < length w

number-field : (n : ℕ) → n ≤ 9422 → IsField 32 (decimal n)
number-field n few =
    record { free = number-free 32 n (omega arith) few; some = decimal_nonempty n (omega (arith, few)) }

tti-words : (a b c d : List ℕ) → IsField 32 a → IsField 32 b → IsField 32 c → IsField 32 d
    → words_of (tti_text a b c d) ≡ codes "tti" ∷ a ∷ b ∷ c ∷ d ∷ []
tti-words a b c d ha hb hc hd =
    word-more (codes "tti") (a ++ 32 ∷ (b ++ 32 ∷ (c ++ 32 ∷ d))) refl (omega arith)
    ∙ ap (λ (ws : List (List ℕ)). codes "tti" ∷ ws) (word-more a (b ++ 32 ∷ (c ++ 32 ∷ d)) ha.free ha.some
    ∙ ap (λ (ws : List (List ℕ)). a ∷ ws) (word-more b (c ++ 32 ∷ d) hb.free hb.some
    ∙ ap (λ (ws : List (List ℕ)). b ∷ ws) (word-more c d hc.free hc.some
    ∙ ap (λ (ws : List (List ℕ)). c ∷ ws) (word-last d hd.free hd.some))))

free-more : (o : ℕ) (w rest : List ℕ) → (32 == o) ≡ false → has_no o w ≡ true → has_no o rest ≡ true
    → has_no o (w ++ 32 ∷ rest) ≡ true
free-more o w rest space hw hr =
    let more : has_no o (32 ∷ rest) ≡ true = rw space hr in no-both o w (32 ∷ rest) hw more

tti-free : (o : ℕ) (a b c d : List ℕ) → (32 == o) ≡ false → has_no o (codes "tti") ≡ true → has_no o a ≡ true
    → has_no o b ≡ true → has_no o c ≡ true → has_no o d ≡ true → has_no o (tti_text a b c d) ≡ true
tti-free o a b c d space tti ha hb hc hd =
    free-more o (codes "tti") (a ++ 32 ∷ (b ++ 32 ∷ (c ++ 32 ∷ d))) space tti
    (free-more o a (b ++ 32 ∷ (c ++ 32 ∷ d)) space ha
    (free-more o b (c ++ 32 ∷ d) space hb (free-more o c d space hc hd)))

tti-short : (a b c d : List ℕ) → length a ≤ 5 → length b ≤ 5 → length c ≤ 5 → length d ≤ 5
    → length (tti_text a b c d) ≤ 20000
tti-short a b c d ha hb hc hd =
    let one = length-append c (32 ∷ d) in
    let two = length-append b (32 ∷ (c ++ 32 ∷ d)) in
    let three = length-append a (32 ∷ (b ++ 32 ∷ (c ++ 32 ∷ d))) in
    omega (arith, one, two, three, ha, hb, hc, hd)

-- a TTI with grants of up to 9422 octets is said by its text
pub tti-says : (up_grant : ℕ) (up : Outcome) (down_grant : ℕ) (down : Outcome) → up_grant ≤ GREATEST_GRANT
    → down_grant ≤ GREATEST_GRANT
    → Says (tti_text (decimal up_grant) (fate_text up.fate up.flipped) (decimal down_grant)
    (fate_text down.fate down.flipped)) (Tti up_grant up down_grant down)
tti-says ug up dg down ha hb =
    let a = decimal ug in
    let b = fate_text up.fate up.flipped in
    let c = decimal dg in
    let d = fate_text down.fate down.flipped in
    let words = tti-words a b c d
    (number-field ug (omega (arith, ha)))
    (record { free = fate-free 32 up.fate up.flipped (omega arith); some = fate-some up.fate up.flipped })
    (number-field dg (omega (arith, hb)))
    (record { free = fate-free 32 down.fate down.flipped (omega arith); some = fate-some down.fate down.flipped }) in
    says-by (tti_text a b c d) (Tti ug up dg down)
    (tti-free 10 a b c d refl refl (number-free 10 ug (omega arith) (omega (arith, ha)))
    (fate-free 10 up.fate up.flipped (omega arith)) (number-free 10 dg (omega arith) (omega (arith, hb)))
    (fate-free 10 down.fate down.flipped (omega arith)))
    (tti-free 13 a b c d refl refl (number-free 13 ug (omega arith) (omega (arith, ha)))
    (fate-free 13 up.fate up.flipped (omega arith)) (number-free 13 dg (omega arith) (omega (arith, hb)))
    (fate-free 13 down.fate down.flipped (omega arith)))
    (tti-short a b c d (length-decimal-le 5 ug (omega arith) (omega (arith, ha)) (omega (arith, ha)))
    (fate-short up.fate up.flipped) (length-decimal-le 5 dg (omega arith) (omega (arith, hb)) (omega (arith, hb)))
    (fate-short down.fate down.flipped))
    (ap read_words words ∙ back-line (Tti ug up dg down) (ha, hb))

-- the grants of a list are bounded, whatever the place
pub grant-within : (xs : List ℕ) (k : ℕ) → All (λ grant. grant ≤ GREATEST_GRANT) xs → slice_index xs k ≤ GREATEST_GRANT
grant-within [] k h = omega arith
grant-within (x ∷ xs) zero h = h zero 0 (omega arith)
grant-within (x ∷ xs) (suc k) h = grant-within xs k (λ j d less. h (suc j) d (omega (arith, less)))
