-- Extension units that were written are read again, and what is read is how units are written.
use Rattle.std.proofs.Common.{◌≡◌, ℕ, zero, suc, ◌+◌, ◌*◌, ◌/◌, ◌%◌, ◌<◌, ◌^◌, Bool, true, false, List, [], ◌∷◌, ◌++◌}
use Rattle.std.proofs.Common.{Option, Some, None, refl, sym, ap, subst, ◌∙◌, arith, eqb}
use Rattle.std.specs.Prelude.{slice_index}
use Rattle.std.proofs.lemmas.Bool.{eqb-true, eqb-false}
use Rattle.std.proofs.lemmas.List.Elements.{All-tail}
use Rattle.rlc_pdu.specs.Units.{Units, units, with_li, follows, units_octets, AreLis}

-- each is an octet
abbrev pub AreOctets : List ℕ → Type 0
AreOctets octets = (i : ℕ) → slice_index octets i < 256

pub some_is : {A : Type 0} (x y : A) → Some x ≡ Some y → x ≡ y
some_is x y e = cc

pub follows_bit : (lis : List ℕ) → follows lis < 2
follows_bit [] = omega arith
follows_bit (n ∷ lis) = omega arith

-- a bit by its test
pub bit_is : (f b : ℕ) → f < 2 → b < 2 → eqb f 1 ≡ eqb b 1 → f ≡ b
bit_is f b hf hb e = go (eqb b 1) refl e
  where
    go : (t : Bool) → eqb b 1 ≡ t → eqb f 1 ≡ t → f ≡ b
    go true eb ef = eqb-true f 1 ef ∙ sym (eqb-true b 1 eb)
    go false eb ef =
        let nf : f ≡ 1 → ⊥ = eqb-false f 1 ef in
        let nb : b ≡ 1 → ⊥ = eqb-false b 1 eb in
        omega (arith, nf, nb, hf, hb)

pub units_again : (padding : ℕ) (lis field : List ℕ) → padding < 16 → AreLis lis
    → units false (eqb (follows lis) 1) (units_octets padding lis ++ field)
    ≡ Some (record { lis = lis; rest = field })
unfolding units
units_again padding [] field p h = refl
units_again padding (x ∷ []) field p h =
    let x-fits : x < 2 ^ 11 = h 0 0 (omega arith) in
    let a : x / 16 % 128 * 16 + (x % 16 * 16 + padding) / 16 ≡ x = omega (arith, p) in
    let b : x / 16 / 128 % 2 ≡ 0 = omega arith in
    rw (a, b) refl
units_again padding (x ∷ y ∷ lis) field p h =
    let x-fits : x < 2 ^ 11 = h 0 0 (omega arith) in
    let y-fits : y < 2 ^ 11 = h 1 0 (omega arith) in
    let f = follows_bit lis in
    let m : ℕ = x % 16 * 16 + follows lis * 8 + y / 256 in
    let a : (128 + x / 16) % 128 * 16 + m / 16 ≡ x = omega arith in
    let b : (128 + x / 16) / 128 % 2 ≡ 1 = omega arith in
    let c : m % 8 * 256 + y % 256 ≡ y = omega arith in
    let d : m / 8 % 2 ≡ follows lis = omega arith in
    let rest =
    units_again padding lis field p (All-tail (λ n. n < 2 ^ 11) y lis (All-tail (λ n. n < 2 ^ 11) x (y ∷ lis) h))
    in
    rw (a, b, c, d, rest) refl

-- units are written as they were read
pub record AreUnits (more : Bool) (octets : List ℕ) (u : Units) : Type 0 where
  pub padding : ℕ
  pub four_bits : padding < 16
  pub lis : AreLis u.lis
  pub more_is : eqb (follows u.lis) 1 ≡ more
  pub spelled : octets ≡ units_octets padding u.lis ++ u.rest

no_li : AreLis []
no_li i d within = absurd (omega (arith, within))

li_more : (n : ℕ) (lis : List ℕ) → n < 2 ^ 11 → AreLis lis → AreLis (n ∷ lis)
li_more n lis fits h zero d within = fits
li_more n lis fits h (suc i) d within = h i d (omega (arith, within))

last_unit : (a b : ℕ) (rest : List ℕ) (u : Units) → a < 256 → b < 256 → eqb (a / 128 % 2) 1 ≡ false
    → with_li (a % 128 * 16 + b / 16) (units true false (b ∷ rest)) ≡ Some u → AreUnits true (a ∷ b ∷ rest) u
unfolding units
last_unit a b rest u la lb m e =
    let n : ℕ = a % 128 * 16 + b / 16 in
    let bit : a / 128 % 2 ≡ 1 → ⊥ = eqb-false (a / 128 % 2) 1 m in
    let first : n / 16 ≡ a = omega (arith, la, lb, bit) in
    let second : n % 16 * 16 + b % 16 ≡ b = omega (arith, lb) in
    subst (λ (v : Units). AreUnits true (a ∷ b ∷ rest) v) (some_is _ u e) (record {
      padding = b % 16;
      four_bits = omega arith;
      lis = li_more n [] (omega (arith, lb)) no_li;
      more_is = refl;
      spelled = rw (first, second) refl;
    })

pair_units : (a b c : ℕ) (rest : List ℕ) (v : Units) → a < 256 → b < 256 → c < 256 → eqb (a / 128 % 2) 1 ≡ true
    → AreUnits (eqb (b / 8 % 2) 1) rest v
    → AreUnits true (a ∷ b ∷ c ∷ rest)
    (record { lis = (a % 128 * 16 + b / 16) ∷ (b % 8 * 256 + c) ∷ v.lis; rest = v.rest })
pair_units a b c rest v la lb lc m h =
    let x : ℕ = a % 128 * 16 + b / 16 in
    let y : ℕ = b % 8 * 256 + c in
    let bit : a / 128 % 2 ≡ 1 = eqb-true (a / 128 % 2) 1 m in
    let f : follows v.lis ≡ b / 8 % 2 =
    bit_is (follows v.lis) (b / 8 % 2) (follows_bit v.lis) (omega arith) h.more_is in
    let first : 128 + x / 16 ≡ a = omega (arith, la, lb, bit) in
    let second : x % 16 * 16 + follows v.lis * 8 + y / 256 ≡ b = omega (arith, lb, lc, f) in
    let third : y % 256 ≡ c = omega (arith, lc) in
    record {
      padding = h.padding;
      four_bits = h.four_bits;
      lis = li_more x (y ∷ v.lis) (omega (arith, lb)) (li_more y v.lis (omega (arith, lc)) h.lis);
      more_is = refl;
      spelled = rw (first, second, third) (ap (λ (os : List ℕ). a ∷ b ∷ c ∷ os) h.spelled);
    }

pair_found : (a b c : ℕ) (rest : List ℕ) (u : Units) → a < 256 → b < 256 → c < 256 → eqb (a / 128 % 2) 1 ≡ true
    → (v : Option Units) → ((w : Units) → v ≡ Some w → AreUnits (eqb (b / 8 % 2) 1) rest w)
    → with_li (a % 128 * 16 + b / 16) (with_li (b % 8 * 256 + c) v) ≡ Some u → AreUnits true (a ∷ b ∷ c ∷ rest) u
pair_found a b c rest u la lb lc m None later e = absurd cc
pair_found a b c rest u la lb lc m (Some v) later e =
    subst (λ (w : Units). AreUnits true (a ∷ b ∷ c ∷ rest) w) (some_is _ u e)
    (pair_units a b c rest v la lb lc m (later v refl))

short_found : (a b : ℕ) (u : Units) (t : Bool) → a < 256 → b < 256 → eqb (a / 128 % 2) 1 ≡ t
    → with_li (a % 128 * 16 + b / 16) (units true t (b ∷ [])) ≡ Some u → AreUnits true (a ∷ b ∷ []) u
unfolding units
short_found a b u false la lb m e = last_unit a b [] u la lb m e
short_found a b u true la lb m e = absurd cc

long_found : (a b c : ℕ) (rest : List ℕ) (u : Units) (t : Bool) → a < 256 → b < 256 → c < 256 → eqb (a / 128 % 2) 1 ≡ t
    → ((w : Units) → units false (eqb (b / 8 % 2) 1) rest ≡ Some w → AreUnits (eqb (b / 8 % 2) 1) rest w)
    → with_li (a % 128 * 16 + b / 16) (units true t (b ∷ c ∷ rest)) ≡ Some u → AreUnits true (a ∷ b ∷ c ∷ rest) u
unfolding units
long_found a b c rest u false la lb lc m later e = last_unit a b (c ∷ rest) u la lb m e
long_found a b c rest u true la lb lc m later e =
    pair_found a b c rest u la lb lc m (units false (eqb (b / 8 % 2) 1) rest) later e

pub units_found : (more : Bool) (octets : List ℕ) (u : Units) → AreOctets octets → units false more octets ≡ Some u
    → AreUnits more octets u
unfolding units
units_found false octets u fits e =
    subst (λ (v : Units). AreUnits false octets v) (some_is _ u e)
    (record { padding = 0; four_bits = omega arith; lis = no_li; more_is = refl; spelled = refl })
units_found true [] u fits e = absurd cc
units_found true (a ∷ []) u fits e = absurd cc
units_found true (a ∷ b ∷ []) u fits e = short_found a b u (eqb (a / 128 % 2) 1) (fits 0) (fits 1) refl e
units_found true (a ∷ b ∷ c ∷ rest) u fits e =
    long_found a b c rest u (eqb (a / 128 % 2) 1) (fits 0) (fits 1) (fits 2) refl
    (λ w f. units_found (eqb (b / 8 % 2) 1) rest w (λ i. fits (suc (suc (suc i)))) f) e
