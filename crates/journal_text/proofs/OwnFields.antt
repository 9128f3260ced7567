-- Fields that are printed as they were read; hexadecimal digits in lower case.
use Rattle.std.proofs.Common.{◌≡◌, ◌<◌, ◌≤◌, ◌^◌, ◌==◌, ◌∙◌, ℕ, Bool, true, false, if◌then◌else◌, nat_lt, List}
use Rattle.std.proofs.Common.{◌*◌, length, refl, sym, ap, arith, codes, Result, Ok, Err}
use Rattle.std.proofs.lemmas.Bool.Decides.{nat_tests}
use Rattle.std.proofs.lemmas.Fmt.{decimal_digit}
use Rattle.std.specs.Fmt.{decimal}
use Rattle.std.specs.Str.{bytes_eq}
use Rattle.hex.specs.Hex.{decode_of, encode_lower, lower_digits, IsBytes}
use Rattle.hex.specs.declared.error.FromHexError.{FromHexError}
use Rattle.hex.proofs.HexLemmas.{decode_of-ok, decode_of-encode_lower, length-encode_with}
use Rattle.text_digits.specs.Numerals.{value_behind}
use Rattle.l2_types.specs.declared.side.Side.{Side}
use Rattle.l2_types.specs.declared.side.Side.TheVariants.{Ue, Nb}
use Rattle.l2_types.specs.declared.event.Clock.{Clock}
use Rattle.l2_types.specs.declared.event.Clock.TheVariants as clocks
use Rattle.l2_types.specs.declared.channel.Kind.{Kind}
use Rattle.l2_types.specs.declared.channel.Kind.TheVariants as kinds
use Rattle.eps_sec.specs.declared.keys.Cipher.{Cipher}
use Rattle.eps_sec.specs.declared.keys.Cipher.TheVariants as ciphers
use Rattle.eps_sec.specs.declared.keys.Key.{Key}
use Rattle.air_record.specs.declared.line.Fate.TheVariants as fates
use Rattle.air_record.specs.declared.line.Outcome.{Outcome}
use Rattle.air_record.specs.Text.{side_text, clock_text, kind_text, cipher_text, outcome_text}
use Rattle.air_text.specs.declared.fault.LineRefusal.{LineRefusal}
use Rattle.air_text.specs.declared.fault.LineRefusal.TheVariants.{Word, Number, Range, Hex}
use Rattle.air_text.specs.Words.{◌>>=◌}
use Rattle.air_text.specs.Fields.{is_number, number_of, octets_in, octets_of, side_of, clock_of, kind_of, outcome}
use Rattle.air_text.specs.Fields.{outcome_of, cipher_of, word_of}
use Rattle.air_text.specs.Reading.{key_in, key_of}
use Rattle.journal_text.proofs.Numbers.{same_word, written_again}
use Rattle.journal_text.proofs.Octets.{octets-free}
use Rattle.journal_text.proofs.OwnWords.{IsLike}

-- ---- one result and then another

-- what follows
pub through : {A L : Type 0} (r : Result A LineRefusal) (f : A → Result L LineRefusal) (line : L) (P : Type 0)
    → (r >>= f) ≡ Ok line → ((x : A) → r ≡ Ok x → f x ≡ Ok line → P) → P
through (Ok x) f line P h next = next x refl h
through (Err e) f line P h next = cc

-- ---- numbers

within : (least most v n : ℕ)
    → (if nat_lt most v then Err Range else if nat_lt v least then Err Range else Ok v) ≡ Ok n
    → (v ≡ n) × (v ≤ most)
within least most v n h = grind (arith, h)

pub number_again : (least most n : ℕ) (w : List ℕ) → number_of least most w ≡ Ok n → most < 2 ^ 64 → decimal n ≡ w
unfolding number_of
number_again least most n w h small =
    elim (is_number w) as (λ b. b ≡ is_number w → (if b then (if nat_lt most (value_behind 0 w) then Err Range
    else if nat_lt (value_behind 0 w) least then Err Range else Ok (value_behind 0 w)) else Err Number) ≡ Ok n
    → decimal n ≡ w) [
      | true ↦ λ (e : true ≡ is_number w) f.
          let p = within least most (value_behind 0 w) n f in
          ap decimal (sym p.0) ∙ written_again w (sym e) (omega (arith, p.1, small))
      | false ↦ λ e f. cc
    ] refl h

-- ---- words

pick : {A : Type 0} (text : A → List ℕ) (w word : List ℕ) (one s : A) (other : Result A LineRefusal)
    → text one ≡ word → (if bytes_eq w word then Ok one else other) ≡ Ok s → (other ≡ Ok s → text s ≡ w)
    → text s ≡ w
pick text w word one s other is h more =
    elim (bytes_eq w word) as (λ b. b ≡ bytes_eq w word → (if b then Ok one else other) ≡ Ok s → text s ≡ w) [
      | true ↦ λ e f. let same : one ≡ s = cc in ap text (sym same) ∙ is ∙ sym (same_word w word (sym e))
      | false ↦ λ e f. more f
    ] refl h

pub word_again : (word w : List ℕ) (u : Unit {0}) → word_of word w ≡ Ok u → word ≡ w
unfolding word_of
word_again word w u h = pick (λ (v : Unit {0}). word) w word tt u (Err Word) refl h (λ f. cc)

pub side_again : (w : List ℕ) (s : Side) → side_of w ≡ Ok s → side_text s ≡ w
unfolding side_of
side_again w s h =
    pick side_text w (codes "ue") Ue s _ refl h
    (λ f. pick side_text w (codes "nb") Nb s (Err Word) refl f (λ g. cc))

pub clock_again : (w : List ℕ) (s : Clock) → clock_of w ≡ Ok s → clock_text s ≡ w
unfolding clock_of
clock_again w s h =
    pick clock_text w (codes "poll") clocks.Poll s _ refl h
    (λ f. pick clock_text w (codes "reorder") clocks.Reorder s _ refl f
    (λ g. pick clock_text w (codes "prohibit") clocks.Prohibit s (Err Word) refl g (λ i. cc)))

pub kind_again : (w : List ℕ) (s : Kind) → kind_of w ≡ Ok s → kind_text s ≡ w
unfolding kind_of
kind_again w s h =
    pick kind_text w (codes "tm") kinds.Tm s _ refl h
    (λ f. pick kind_text w (codes "srb") kinds.Srb s _ refl f
    (λ g. pick kind_text w (codes "um") kinds.Um s _ refl g
    (λ i. pick kind_text w (codes "am") kinds.Am s (Err Word) refl i (λ j. cc))))

pub outcome_again : (w : List ℕ) (s : Outcome) → outcome_of w ≡ Ok s → outcome_text s ≡ w
unfolding outcome_of
outcome_again w s h =
    pick outcome_text w (codes "ok") (outcome fates.Ok false) s _ refl h
    (λ f. pick outcome_text w (codes "ok~") (outcome fates.Ok true) s _ refl f
    (λ g. pick outcome_text w (codes "bad") (outcome fates.Bad false) s _ refl g
    (λ i. pick outcome_text w (codes "bad~") (outcome fates.Bad true) s _ refl i
    (λ j. pick outcome_text w (codes "miss") (outcome fates.Miss false) s _ refl j
    (λ k. pick outcome_text w (codes "miss~") (outcome fates.Miss true) s (Err Word) refl k (λ l. cc))))))

chosen : (n : ℕ) (c : Cipher)
    → (if n == 0 then Ok ciphers.Eea0 else if n == 2 then Ok ciphers.Eea2 else Err Range) ≡ Ok c
    → cipher_text c ≡ decimal n
chosen n c h =
    elim (n == 0) as (λ b. b ≡ (n == 0)
    → (if b then Ok ciphers.Eea0 else if n == 2 then Ok ciphers.Eea2 else Err Range) ≡ Ok c
    → cipher_text c ≡ decimal n) [
      | true ↦ λ e f.
          let same : ciphers.Eea0 ≡ c = cc in
          let none : n ≡ 0 = grind (arith, nat_tests, e) in
          ap cipher_text (sym same) ∙ sym (ap decimal none ∙ decimal_digit 0 (omega arith))
      | false ↦ λ e f.
          elim (n == 2) as (λ b. b ≡ (n == 2) → (if b then Ok ciphers.Eea2 else Err Range) ≡ Ok c
          → cipher_text c ≡ decimal n) [
            | true ↦ λ e f.
                let same : ciphers.Eea2 ≡ c = cc in
                let two : n ≡ 2 = grind (arith, nat_tests, e) in
                ap cipher_text (sym same) ∙ sym (ap decimal two ∙ decimal_digit 2 (omega arith))
            | false ↦ λ e f. cc
          ] refl f
    ] refl h

pub cipher_again : (w : List ℕ) (c : Cipher) → cipher_of w ≡ Ok c → cipher_text c ≡ w
unfolding cipher_of
cipher_again w c h =
    through (number_of 0 100 w) _ c _ h (λ n number h. chosen n c h ∙ number_again 0 100 n w number (omega arith))

-- ---- octets

-- digits in lower case for others
pub record IsHexOf (w octets : List ℕ) : Type 0 where
  pub like : IsLike w (encode_lower octets)
  pub bytes : IsBytes octets
  pub twice : length w ≡ 2 * length octets

hex-of : (w octets : List ℕ) → decode_of w ≡ Ok octets → IsHexOf w octets
hex-of w octets h =
    let p = decode_of-ok w octets h in
    let long = length-encode_with lower_digits octets in
    record {
      like = record { as_long = omega (arith, long, p.2); free = λ f. octets-free octets };
      bytes = p.3;
      twice = p.2;
    }

short-enough : (most : ℕ) (read octets : List ℕ) → octets_in most (Ok read) ≡ Ok octets
    → (read ≡ octets) × (nat_lt most (length read) ≡ false)
short-enough most read octets h =
    elim (nat_lt most (length read)) as (λ b. (if b then Err Range else Ok read) ≡ Ok octets
    → (read ≡ octets) × (b ≡ false)) [
      | true ↦ λ f. cc
      | false ↦ λ f. (cc, refl)
    ] h

-- octets that are read, and read again
pub record ReadsOctets (most : ℕ) (w octets : List ℕ) : Type 0 where
  pub like : IsLike w (encode_lower octets)
  pub read : octets_of most (encode_lower octets) ≡ Ok octets

again-octets : (most : ℕ) (w octets : List ℕ) → (length w == 0) ≡ false → decode_of w ≡ Ok octets
    → nat_lt most (length octets) ≡ false → ReadsOctets most w octets
unfolding octets_of
again-octets most w octets some decoded short =
    let p = hex-of w octets decoded in
    let long = length-encode_with lower_digits octets in
    let full : (length (encode_lower octets) == 0) ≡ false = grind (arith, nat_tests, long, p.twice, some) in
    record { like = p.like; read = rw (full, decode_of-encode_lower octets p.bytes, short) refl }

pub octets_again : (most : ℕ) (w octets : List ℕ) → octets_of most w ≡ Ok octets → ReadsOctets most w octets
unfolding octets_of
octets_again most w octets h = by (decode_of w) (length w == 0) refl refl h
  where
    by : (d : Result (List ℕ) FromHexError) (b : Bool) → decode_of w ≡ d → (length w == 0) ≡ b
        → (if b then Err Hex else octets_in most d) ≡ Ok octets → ReadsOctets most w octets
    by d true e z f = cc
    by (Err x) false e z f = cc
    by (Ok read) false e z f =
        let p = short-enough most read octets f in
        again-octets most w octets z (e ∙ ap Ok p.0)
        (ap (λ (o : List ℕ). nat_lt most (length o)) (sym p.0) ∙ p.1)

-- ---- keys

pub record ReadsKey (w : List ℕ) (key : Key) : Type 0 where
  pub like : IsLike w (encode_lower key.octets)
  pub read : key_of (encode_lower key.octets) ≡ Ok key

whole-key : (octets : List ℕ) (key : Key) → key_in (Ok octets) ≡ Ok key
    → (record { octets = octets } ≡ key) × ((length octets == 16) ≡ true)
whole-key octets key h =
    elim (length octets == 16) as (λ b. (if b then Ok (record { octets = octets }) else Err Range) ≡ Ok key
    → (record { octets = octets } ≡ key) × (b ≡ true)) [
      | true ↦ λ f. (cc, refl)
      | false ↦ λ f. cc
    ] h

again-key : (w : List ℕ) (key : Key) → (length w == 0) ≡ false → decode_of w ≡ Ok key.octets
    → (length key.octets == 16) ≡ true → ReadsKey w key
unfolding key_of
again-key w key some decoded whole =
    let p = hex-of w key.octets decoded in
    let long = length-encode_with lower_digits key.octets in
    let full : (length (encode_lower key.octets) == 0) ≡ false = grind (arith, nat_tests, long, p.twice, some) in
    record { like = p.like; read = rw (full, decode_of-encode_lower key.octets p.bytes, whole) refl }

pub key_again : (w : List ℕ) (key : Key) → key_of w ≡ Ok key → ReadsKey w key
unfolding key_of
key_again w key h = by (decode_of w) (length w == 0) refl refl h
  where
    by : (d : Result (List ℕ) FromHexError) (b : Bool) → decode_of w ≡ d → (length w == 0) ≡ b
        → (if b then Err Hex else key_in d) ≡ Ok key → ReadsKey w key
    by d true e z f = cc
    by (Err x) false e z f = cc
    by (Ok read) false e z f =
        let p = whole-key read key f in
        let octets : read ≡ key.octets = ap (λ (k : Key). k.octets) p.0 in
        again-key w key z (e ∙ ap Ok octets) (ap (λ (o : List ℕ). length o == 16) (sym octets) ∙ p.1)
