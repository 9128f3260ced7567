-- What is read of a PDU of a data bearer is in the grammar.
use Rattle.std.proofs.Common.{◌≡◌, inl, inr, ℕ, suc, ◌+◌, ◌*◌, ◌/◌, ◌%◌, ◌<◌, Bool, true, false, cond, List, [], ◌∷◌}
use Rattle.std.proofs.Common.{◌++◌, refl, ap, arith, sym, Result, Ok}
use Rattle.std.specs.Prelude.{◌==◌, slice_index, IfOk}
use Rattle.std.proofs.lemmas.Bool.{eqb-true, eqb-false}
use Rattle.pdcp_pdu.specs.declared.pdu.PdcpRefusal.{PdcpRefusal}
use Rattle.pdcp_pdu.specs.declared.pdu.PdcpWhy.TheVariants.{ReservedType}
use Rattle.pdcp_pdu.specs.Pdus.{UserPdu, Report, IsUserBits}
use Rattle.pdcp_pdu.specs.Grammar.{IsUserPdu, data_header}
use Rattle.pdcp_pdu.specs.Reading.{refused, user_at, sdu_at, short_user, middle_user, long_user, long_report}

-- each is an octet
abbrev pub AreOctets : List ℕ → Type 0
AreOctets octets = (i : ℕ) → slice_index octets i < 256

-- what was read, if it was, is in the grammar
abbrev pub IsSound : ℕ → List ℕ → Result UserPdu PdcpRefusal → Type 0
IsSound bits octets read = IfOk read (λ pdu. IsUserPdu bits pdu octets)

one_header : (a : ℕ) → a < 256 → (a / 128 % 2 == 1) ≡ true → (x : ℕ) (xs : List ℕ)
    → a ∷ x ∷ xs ≡ data_header 7 0 (a % 128) ++ x ∷ xs
one_header a lt e x xs =
    let bit : a / 128 % 2 ≡ 1 = eqb-true (a / 128 % 2) 1 e in
    let whole : 128 + a % 128 ≡ a = omega (arith, lt, bit) in
    ap (λ n. n ∷ x ∷ xs) (sym whole)

short_sdu : (a : ℕ) (rest : List ℕ) → a < 256 → (a / 128 % 2 == 1) ≡ true
    → IsSound 7 (a ∷ rest) (sdu_at 1 (a % 128) rest)
unfolding sdu_at
short_sdu a [] lt e = tt
short_sdu a (x ∷ xs) lt e = record {
  reserved = 0;
  few = omega arith;
  number = omega arith;
  some = λ bad. cc;
  spelled = one_header a lt e x xs;
}

short_cases : (a : ℕ) (rest : List ℕ) → a < 256 → (b : Bool) → (a / 128 % 2 == 1) ≡ b
    → IsSound 7 (a ∷ rest) (cond b (sdu_at 1 (a % 128) rest) (refused 0 ReservedType))
short_cases a rest lt true e = short_sdu a rest lt e
short_cases a rest lt false e = tt

short_found : (octets : List ℕ) → AreOctets octets → IsSound 7 octets (short_user octets)
unfolding short_user
short_found [] fits = tt
short_found (a ∷ rest) fits = short_cases a rest (fits 0) (a / 128 % 2 == 1) refl

-- two octets and a number of 12 bits in them, behind three bits
middle_sdu : (a b : ℕ) (rest : List ℕ) → a < 256 → b < 256 → (a / 128 % 2 == 1) ≡ true
    → IsSound 12 (a ∷ b ∷ rest) (sdu_at 2 (a % 16 * 256 + b) rest)
unfolding sdu_at
middle_sdu a b [] la lb e = tt
middle_sdu a b (x ∷ xs) la lb e =
    let bit : a / 128 % 2 ≡ 1 = eqb-true (a / 128 % 2) 1 e in
    let first : 128 + a / 16 % 8 * 16 + (a % 16 * 256 + b) / 256 ≡ a = omega (arith, la, lb, bit) in
    let second : (a % 16 * 256 + b) % 256 ≡ b = omega (arith, lb) in
    record {
      reserved = a / 16 % 8;
      few = omega arith;
      number = omega (arith, lb);
      some = λ bad. cc;
      spelled = rw (first, second) refl;
    }

middle_report : (a b : ℕ) (rest : List ℕ) → a < 256 → b < 256 → (a / 128 % 2 == 1) ≡ false → (a / 16 % 8 == 0) ≡ true
    → IsSound 12 (a ∷ b ∷ rest) (Ok (Report (a % 16 * 256 + b) rest))
middle_report a b rest la lb e kind =
    let bit : a / 128 % 2 ≡ 1 → ⊥ = eqb-false (a / 128 % 2) 1 e in
    let type : a / 16 % 8 ≡ 0 = eqb-true (a / 16 % 8) 0 kind in
    let first : (a % 16 * 256 + b) / 256 ≡ a = omega (arith, la, lb, bit, type) in
    let second : (a % 16 * 256 + b) % 256 ≡ b = omega (arith, lb) in
    record {
      reserved = 0;
      long = λ bad. cc;
      few = omega arith;
      number = omega (arith, lb);
      spelled = rw (first, second) refl;
    }

middle_cases : (a b : ℕ) (rest : List ℕ) → a < 256 → b < 256 → (d t : Bool) → (a / 128 % 2 == 1) ≡ d
    → (a / 16 % 8 == 0) ≡ t
    → IsSound 12 (a ∷ b ∷ rest)
    (cond d (sdu_at 2 (a % 16 * 256 + b) rest)
    (cond t (Ok (Report (a % 16 * 256 + b) rest)) (refused 0 ReservedType)))
middle_cases a b rest la lb true t e kind = middle_sdu a b rest la lb e
middle_cases a b rest la lb false true e kind = middle_report a b rest la lb e kind
middle_cases a b rest la lb false false e kind = tt

middle_found : (octets : List ℕ) → AreOctets octets → IsSound 12 octets (middle_user octets)
unfolding middle_user
middle_found [] fits = tt
middle_found (a ∷ []) fits = tt
middle_found (a ∷ b ∷ rest) fits =
    middle_cases a b rest (fits 0) (fits 1) (a / 128 % 2 == 1) (a / 16 % 8 == 0) refl refl

long_sdu : (a b : ℕ) (rest : List ℕ) → a < 256 → b < 256 → (a / 128 % 2 == 1) ≡ true
    → IsSound 15 (a ∷ b ∷ rest) (sdu_at 2 (a % 128 * 256 + b) rest)
unfolding sdu_at
long_sdu a b [] la lb e = tt
long_sdu a b (x ∷ xs) la lb e =
    let bit : a / 128 % 2 ≡ 1 = eqb-true (a / 128 % 2) 1 e in
    let first : 128 + (a % 128 * 256 + b) / 256 ≡ a = omega (arith, la, lb, bit) in
    let second : (a % 128 * 256 + b) % 256 ≡ b = omega (arith, lb) in
    record {
      reserved = 0;
      few = omega arith;
      number = omega (arith, lb);
      some = λ bad. cc;
      spelled = rw (first, second) refl;
    }

long_report_found : (a b : ℕ) (rest : List ℕ) → a < 256 → b < 256 → AreOctets rest → (a / 128 % 2 == 1) ≡ false
    → (a / 16 % 8 == 0) ≡ true → IsSound 15 (a ∷ b ∷ rest) (long_report b rest)
unfolding long_report
long_report_found a b [] la lb fits e kind = tt
long_report_found a b (c ∷ rest) la lb fits e kind =
    let lc : c < 256 = fits 0 in
    let bit : a / 128 % 2 ≡ 1 → ⊥ = eqb-false (a / 128 % 2) 1 e in
    let type : a / 16 % 8 ≡ 0 = eqb-true (a / 16 % 8) 0 kind in
    let first : (a * 2 + b / 128) / 2 ≡ a = omega (arith, lb) in
    let second : (a * 2 + b / 128) % 2 * 128 + (b % 128 * 256 + c) / 256 ≡ b = omega (arith, lb, lc) in
    let third : (b % 128 * 256 + c) % 256 ≡ c = omega (arith, lc) in
    record {
      reserved = a * 2 + b / 128;
      long = λ bad. cc;
      few = omega (arith, la, lb, bit, type);
      number = omega (arith, lc);
      spelled = rw (first, second, third) refl;
    }

long_cases : (a b : ℕ) (rest : List ℕ) → a < 256 → b < 256 → AreOctets rest → (d t : Bool) → (a / 128 % 2 == 1) ≡ d
    → (a / 16 % 8 == 0) ≡ t
    → IsSound 15 (a ∷ b ∷ rest)
    (cond d (sdu_at 2 (a % 128 * 256 + b) rest) (cond t (long_report b rest) (refused 0 ReservedType)))
long_cases a b rest la lb fits true t e kind = long_sdu a b rest la lb e
long_cases a b rest la lb fits false true e kind = long_report_found a b rest la lb fits e kind
long_cases a b rest la lb fits false false e kind = tt

long_found : (octets : List ℕ) → AreOctets octets → IsSound 15 octets (long_user octets)
unfolding long_user
long_found [] fits = tt
long_found (a ∷ []) fits = tt
long_found (a ∷ b ∷ rest) fits =
    long_cases a b rest (fits 0) (fits 1) (λ i. fits (suc (suc i))) (a / 128 % 2 == 1) (a / 16 % 8 == 0) refl refl

pub user_found : (bits : ℕ) (octets : List ℕ) → IsUserBits bits → AreOctets octets
    → IsSound bits octets (user_at bits octets)
user_found bits octets (inl e) fits = rw e (short_found octets fits)
user_found bits octets (inr (inl e)) fits = rw e (middle_found octets fits)
user_found bits octets (inr (inr e)) fits = rw e (long_found octets fits)
