-- A bitmap says which COUNTs are held.
use Rattle.std.proofs.Common.{◌≡◌, ◌≢◌, ◌<◌, ◌≤◌, ℕ, suc, zero, ◌+◌, ◌-◌, ◌*◌, ◌/◌, ◌%◌, ◌^◌, Bool, true, false, ◌==◌}
use Rattle.std.proofs.Common.{if◌then◌else◌, List, [], ◌∷◌, Option, slice_index, length, nat_lt, inl, inr, subst, refl}
use Rattle.std.proofs.Common.{ap, ◌∙◌, arith, length-append}
use Rattle.std.proofs.lemmas.Bool.Decides.{nat_tests}
use Rattle.pdcp_rx.specs.Held.{octet, bitmap, bit, is_held, Ends}
use Rattle.pdcp_pdu.specs.Grammar.{bit_of, IsBitmap, report_header}
use Rattle.pdcp_pdu.specs.Kinds.{bits_of}
use Rattle.pdcp_rx.specs.State.{State, report}

few_step : (b : Bool) → (if b then 1 else 0) ≤ 1
few_step true = omega arith
few_step false = omega arith

few : (held : List (Option (List ℕ))) (at : ℕ) → bit held at ≤ 1
few held at = few_step (is_held held at)

-- the binary digits of an octet, the highest first
pub record AreDigits (n a b c d e f g h : ℕ) : Type 0 where
  pub first : n / 128 % 2 ≡ a
  pub second : n / 64 % 2 ≡ b
  pub third : n / 32 % 2 ≡ c
  pub fourth : n / 16 % 2 ≡ d
  pub fifth : n / 8 % 2 ≡ e
  pub sixth : n / 4 % 2 ≡ f
  pub seventh : n / 2 % 2 ≡ g
  pub last : n / 1 % 2 ≡ h

are_digits : (a b c d e f g h : ℕ) → a ≤ 1 → b ≤ 1 → c ≤ 1 → d ≤ 1 → e ≤ 1 → f ≤ 1 → g ≤ 1 → h ≤ 1
    → AreDigits (128 * a + 64 * b + 32 * c + 16 * d + 8 * e + 4 * f + 2 * g + h) a b c d e f g h
are_digits a b c d e f g h la lb lc ld le lf lg lh = record {
  first = omega arith;
  second = omega arith;
  third = omega arith;
  fourth = omega arith;
  fifth = omega arith;
  sixth = omega arith;
  seventh = omega arith;
  last = omega arith;
}

digits : (held : List (Option (List ℕ))) (at : ℕ)
    → AreDigits (octet held at) (bit held at) (bit held (at + 1)) (bit held (at + 2)) (bit held (at + 3))
    (bit held (at + 4)) (bit held (at + 5)) (bit held (at + 6)) (bit held (at + 7))
digits held at =
    are_digits (bit held at) (bit held (at + 1)) (bit held (at + 2)) (bit held (at + 3)) (bit held (at + 4))
    (bit held (at + 5)) (bit held (at + 6)) (bit held (at + 7)) (few held at) (few held (at + 1)) (few held (at + 2))
    (few held (at + 3)) (few held (at + 4)) (few held (at + 5)) (few held (at + 6)) (few held (at + 7))

is_bit : (b : Bool) → ((if b then 1 else 0) == 1) ≡ b
is_bit true = refl
is_bit false = refl

read_from : (n : ℕ) (b : Bool) → n ≡ (if b then 1 else 0) → (n == 1) ≡ b
read_from n b e = ap (λ (v : ℕ). v == 1) e ∙ is_bit b

reads : (held : List (Option (List ℕ))) (at k : ℕ) → k < 8
    → (octet held at / 2 ^ (7 - k) % 2 == 1) ≡ is_held held (at + k)
reads held at zero lt = let e : at + 0 ≡ at = omega arith in
    rw e (read_from (octet held at / 128 % 2) (is_held held at) (digits held at).first)
reads held at (suc zero) lt =
    read_from (octet held at / 64 % 2) (is_held held (at + 1)) (digits held at).second
reads held at (suc (suc zero)) lt =
    read_from (octet held at / 32 % 2) (is_held held (at + 2)) (digits held at).third
reads held at (suc (suc (suc zero))) lt =
    read_from (octet held at / 16 % 2) (is_held held (at + 3)) (digits held at).fourth
reads held at (suc (suc (suc (suc zero)))) lt =
    read_from (octet held at / 8 % 2) (is_held held (at + 4)) (digits held at).fifth
reads held at (suc (suc (suc (suc (suc zero))))) lt =
    read_from (octet held at / 4 % 2) (is_held held (at + 5)) (digits held at).sixth
reads held at (suc (suc (suc (suc (suc (suc zero)))))) lt =
    read_from (octet held at / 2 % 2) (is_held held (at + 6)) (digits held at).seventh
reads held at (suc (suc (suc (suc (suc (suc (suc zero))))))) lt =
    read_from (octet held at / 1 % 2) (is_held held (at + 7)) (digits held at).last
reads held at (suc (suc (suc (suc (suc (suc (suc (suc k)))))))) lt = absurd (omega arith)

step : (held : List (Option (List ℕ))) (at n k : ℕ) (b : Bool) → nat_lt k 8 ≡ b
    → (8 ≤ k → bit_of (bitmap held (at + 8) n) (k - 8) ≡ is_held held (at + 8 + (k - 8)))
    → bit_of (bitmap held at (suc n)) k ≡ is_held held (at + k)
step held at n k true e f =
    let lt : k < 8 = grind (arith, nat_tests, e) in
    let q : k / 8 ≡ 0 = omega arith in
    let r : k % 8 ≡ k = omega arith in
    rw (q, r) (reads held at k lt)
step held at n k false e f =
    let le : 8 ≤ k = grind (arith, nat_tests, e) in
    let q : k / 8 ≡ suc ((k - 8) / 8) = omega arith in
    let r : k % 8 ≡ (k - 8) % 8 = omega arith in
    let p : at + 8 + (k - 8) ≡ at + k = omega arith in
    rw (q, r) (f le ∙ ap (is_held held) p)

-- a bitmap says which COUNTs are held
pub written : (held : List (Option (List ℕ))) (at n k : ℕ) → k < 8 * n
    → bit_of (bitmap held at n) k ≡ is_held held (at + k)
written held at zero k lt = absurd (omega arith)
written held at (suc n) k lt = step held at n k (nat_lt k 8) refl (λ le. written held (at + 8) n (k - 8) (omega arith))

bitmap_length : (held : List (Option (List ℕ))) (at n : ℕ) → length (bitmap held at n) ≡ n
bitmap_length held at zero = refl
bitmap_length held at (suc n) = ap suc (bitmap_length held (at + 8) n)

not_zero : (v d : ℕ) → (v / d % 2 == 1) ≡ true → v ≢ 0
not_zero v d e z = let none : (0 / d % 2 == 1) ≡ true = subst (λ (n : ℕ). (n / d % 2 == 1) ≡ true) z e in
    absurd (grind (arith, nat_tests, none))

ends_step : (held : List (Option (List ℕ))) (b : Bool) → nat_lt 1 (length held) ≡ b → Ends held
    → IsBitmap (bitmap held 1 ((length held + 6) / 8))
ends_step held false e ends =
    let le : length held ≤ 1 = grind (arith, nat_tests, e) in
    let none : (length held + 6) / 8 ≡ 0 = omega arith in
    rw none (inl refl)
ends_step held true e ends =
    let lt : 1 < length held = grind (arith, nat_tests, e) in
    let n = (length held + 6) / 8 in
    let last : length (bitmap held 1 n) - 1 ≡ (length held - 2) / 8 = omega (arith, bitmap_length held 1 n) in
    let place : 1 + (length held - 2) ≡ length held - 1 = omega arith in
    let set : bit_of (bitmap held 1 n) (length held - 2) ≡ true =
    written held 1 n (length held - 2) (omega arith) ∙ ap (is_held held) place ∙ ends (omega arith) in
    inr
    (rw last (not_zero (slice_index (bitmap held 1 n) ((length held - 2) / 8)) (2 ^ (7 - (length held - 2) % 8))
    set))

-- the bitmap of a report ends with an octet that isn't 0
pub report_ends : (held : List (Option (List ℕ))) → Ends held → IsBitmap (bitmap held 1 ((length held + 6) / 8))
report_ends held = ends_step held (nat_lt 1 (length held)) refl

header_few : (b : Bool) (fms : ℕ)
    → length (if b then (fms / 256) ∷ (fms % 256) ∷ [] else 0 / 2 ∷ (0 % 2 * 128 + fms / 256) ∷ (fms % 256) ∷ []) ≤ 3
header_few true fms = omega arith
header_few false fms = omega arith

header_some : (b : Bool) (fms : ℕ)
    → 2 ≤ length (if b then (fms / 256) ∷ (fms % 256) ∷ [] else 0 / 2 ∷ (0 % 2 * 128 + fms / 256) ∷ (fms % 256) ∷ [])
header_some true fms = omega arith
header_some false fms = omega arith

-- a report is short
pub report_few : (s : State) → length s.held ≤ 2 ^ 15 → length (report s) ≤ 8193
unfolding report
report_few s le =
    omega (
      arith,
      length-append (report_header (bits_of s.kind) 0 (s.next % 2 ^ bits_of s.kind))
          (bitmap s.held 1 ((length s.held + 6) / 8)),
      bitmap_length s.held 1 ((length s.held + 6) / 8),
      header_few (bits_of s.kind == 12) (s.next % 2 ^ bits_of s.kind),
    )

pub report_some : (s : State) → 1 ≤ length (report s)
unfolding report
report_some s =
    omega (
      arith,
      length-append (report_header (bits_of s.kind) 0 (s.next % 2 ^ bits_of s.kind))
          (bitmap s.held 1 ((length s.held + 6) / 8)),
      header_some (bits_of s.kind == 12) (s.next % 2 ^ bits_of s.kind),
    )

pub ruleset report_lengths = (report_few, report_some)
