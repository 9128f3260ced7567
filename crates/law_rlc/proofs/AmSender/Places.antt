-- Octets that are named, place by place.
use Rattle.std.proofs.Common.{◌≡◌, ◌<◌, ◌≤◌, inl, inr, ℕ, suc, zero, ◌+◌, Bool, true, false, not, ◌||◌, ◌&&◌, ◌==◌}
use Rattle.std.proofs.Common.{if◌then◌else◌, List, [], Option, Some, None, refl, ap, sym, subst, ◌∙◌, arith, nat_le}
use Rattle.std.proofs.Common.{nat_lt}
use Rattle.std.proofs.lemmas.Bool.Decides.{nat_tests}
use Rattle.std.proofs.lemmas.Bool.{cases_lt, cases_eq}
use Rattle.std.specs.Prelude.{MatchOption}
use Rattle.rlc_pdu.specs.declared.pdu.Part.{Part}
use Rattle.rlc_pdu.specs.Runs.{Run, run_between, lies_in, has, removed, AreAscending, gap_in}
use Rattle.rlc_pdu.specs.Places.{IsGap}
use Rattle.rlc_pdu.proofs.RunSteps.{removed_has, removed_ascends}
use Rattle.rlc_pdu.proofs.PlaceLaws.{gaps_are_first}
use Rattle.rlc_am_tx_window.specs.Sent.{woken, is_all}
use Rattle.law_rlc.specs.AmSender.Namings.{any_below}

-- some place below a bound

pub any-true : (size : ℕ) (f : ℕ → Bool) (i : ℕ) → i < size → f i ≡ true → any_below size f ≡ true
any-true zero f i h e = absurd (omega arith)
any-true (suc k) f i h e = elim (cases_eq i k) [
  | inl same ↦ let here : f k ≡ true = subst (λ (n : ℕ). f n ≡ true) same e in rw here refl
  | inr other ↦ let rest = any-true k f i (omega (arith, other, h)) e in rw rest (or-true (f k))
]
  where
    or-true : (b : Bool) → (b || true) ≡ true
    or-true true = refl
    or-true false = refl

pub any-false : (size : ℕ) (f : ℕ → Bool) → ((i : ℕ) → i < size → f i ≡ false) → any_below size f ≡ false
any-false zero f h = refl
any-false (suc k) f h = rw (h k (omega arith), any-false k f (λ i lt. h i (omega arith))) refl

pub any-same : (size : ℕ) (f g : ℕ → Bool) → ((i : ℕ) → i < size → f i ≡ g i) → any_below size f ≡ any_below size g
any-same zero f g h = refl
any-same (suc k) f g h = rw (h k (omega arith), any-same k f g (λ i lt. h i (omega arith))) refl

bool-four : (a b c d : Bool) → ((a || b) || (c || d)) ≡ ((a || c) || (b || d))
bool-four true b c d = refl
bool-four false true true d = refl
bool-four false true false d = refl
bool-four false false true d = refl
bool-four false false false d = refl

pub any-or : (size : ℕ) (f g : ℕ → Bool) → (any_below size f || any_below size g) ≡ any_below size (λ i. f i || g i)
any-or zero f g = refl
any-or (suc k) f g = bool-four (f k) (any_below k f) (g k) (any_below k g)
    ∙ ap (λ (b : Bool). (f k || g k) || b) (any-or k f g)

-- a range of a field is named

within : (from to i : ℕ) → from ≤ i → i < to → (nat_le from i && nat_lt i to) ≡ true
within from to i a b = grind (arith, nat_tests)

inside : (from to i : ℕ) → (nat_le from i && nat_lt i to) ≡ true → (from ≤ i) × (i < to)
inside from to i e = (grind (arith, nat_tests), grind (arith, nat_tests))

whole-test : (from to size : ℕ) → ((from == 0) && (to == size)) ≡ true → (from ≡ 0) × (to ≡ size)
whole-test from to size e = (grind (arith, nat_tests), grind (arith, nat_tests))

bool-swap : (a b : Bool) → (not a && b) ≡ (b && not a)
bool-swap true true = refl
bool-swap true false = refl
bool-swap false true = refl
bool-swap false false = refl

bool-none : (a b : Bool) → b ≡ true → false ≡ (a && not b)
bool-none true b e = rw e refl
bool-none false b e = refl

pub woken-has : (size : ℕ) (runs : List Run) (from to i : ℕ) → from < to → i < size
    → has (woken size runs from to) i ≡ (has runs i && not (nat_le from i && nat_lt i to))
woken-has size runs from to i lt h = step ((from == 0) && (to == size)) (whole-test from to size)
  where
    step : (b : Bool) → (b ≡ true → (from ≡ 0) × (to ≡ size))
        → has (if b then [] else removed runs from to) i ≡ (has runs i && not (nat_le from i && nat_lt i to))
    step true w = let p = w refl in let a = p.0 in let b = p.1 in
        bool-none (has runs i) (nat_le from i && nat_lt i to) (within from to i (omega arith) (omega arith))
    step false w = removed_has runs from to lt i ∙ bool-swap (lies_in (run_between from to) i) (has runs i)

pub woken-ascends : (size : ℕ) (runs : List Run) (from to : ℕ) → from < to → AreAscending 0 runs
    → AreAscending 0 (woken size runs from to)
woken-ascends size runs from to lt h = step ((from == 0) && (to == size))
  where
    step : (b : Bool) → AreAscending 0 (if b then [] else removed runs from to)
    step true = tt
    step false = removed_ascends runs from to lt h

-- not all of a range waits exactly where some octet of it rests

all-test : (p : Part) (from to : ℕ) → ((p.start == from) && (p.end + 1 == to)) ≡ true
    → (p.start ≡ from) × (p.end + 1 ≡ to)
all-test p from to e = (grind (arith, nat_tests), grind (arith, nat_tests))

part-test : (p : Part) (from to : ℕ) → ((p.start == from) && (p.end + 1 == to)) ≡ false → p.start ≡ from
    → p.end + 1 ≡ to → ⊥
part-test p from to e a b = let s : (p.start == from) ≡ true = grind (arith, nat_tests) in
    let t : (p.end + 1 == to) ≡ true = grind (arith, nat_tests) in
    let no' : true ≡ false = sym (rw (s, t) refl) ∙ e in cc

bool-and : (a b : Bool) → a ≡ true → b ≡ true → (a && b) ≡ true
bool-and a b e f = rw (e, f) refl

pub rests-some : (size : ℕ) (runs : List Run) (from to : ℕ) → AreAscending 0 runs → from < to → to ≤ size
    → not (is_all (gap_in runs from to) from to) ≡ any_below size (λ i. (nat_le from i && nat_lt i to) && has runs i)
rests-some size runs from to asc lt le = step (gap_in runs from to) (gaps_are_first runs from to asc)
  where
    some : (i : ℕ) → from ≤ i → i < to → has runs i ≡ true
        → true ≡ any_below size (λ i. (nat_le from i && nat_lt i to) && has runs i)
    some i a b e =
        sym (any-true size (λ i. (nat_le from i && nat_lt i to) && has runs i) i (omega arith)
        (bool-and (nat_le from i && nat_lt i to) (has runs i) (within from to i a b) e))

    none : (i : ℕ) → (b : Bool) → (b ≡ true → has runs i ≡ false) → (b && has runs i) ≡ false
    none i true h = h refl
    none i false h = refl

    part : (p : Part) (b : Bool) → ((p.start == from) && (p.end + 1 == to)) ≡ b → IsGap runs from to p
        → not b ≡ any_below size (λ i. (nat_le from i && nat_lt i to) && has runs i)
    part p true e g = let w = all-test p from to e in let w0 = w.0 in let w1 = w.1 in
        sym (any-false size (λ i. (nat_le from i && nat_lt i to) && has runs i)
        (λ i lt'. none i (nat_le from i && nat_lt i to) (λ t. let c = inside from to i t in let c0 = c.0 in
        let c1 = c.1 in g.missing i (omega arith) (omega arith))))
    part p false e g = elim (cases_lt from p.start) [
      | inl above ↦ some from (omega arith) lt (g.first from (omega arith) above)
      | inr not_above ↦ elim (cases_lt (p.end + 1) to) [
        | inl below ↦ some (p.end + 1) (let a = g.above in let b = g.some in omega arith) below (g.largest below)
        | inr not_below ↦ absurd (part-test p from to e (let a = g.above in omega arith) (let a = g.below in
            omega arith))
      ]
    ]

    step : (o : Option Part) → MatchOption o ((i : ℕ) → from ≤ i → i < to → has runs i ≡ true) (IsGap runs from to)
        → not (is_all o from to) ≡ any_below size (λ i. (nat_le from i && nat_lt i to) && has runs i)
    step None h = some from (omega arith) lt (h from (omega arith) lt)
    step (Some p) h = part p ((p.start == from) && (p.end + 1 == to)) refl h
