-- Sums over the numbers below one.
use Rattle.std.proofs.Common.{◌≡◌, ◌≤◌, ◌<◌, ℕ, zero, suc, ◌+◌, ◌-◌, ◌*◌, Bool, true, false, if◌then◌else◌, refl, ap}
use Rattle.std.proofs.Common.{◌∙◌, arith, inl, inr, subst}
use Rattle.std.proofs.lemmas.Bool.{cases_eq}
use Rattle.std.proofs.Math.Nat.{mul-suc}
use Rattle.law_drain.specs.Dues.{sum_below, waiting_of}

-- summand by summand
pub sum_below_le : (n : ℕ) (f g : ℕ → ℕ) → ((k : ℕ) → k < n → f k ≤ g k) → sum_below n f ≤ sum_below n g
sum_below_le zero f g h = omega arith
sum_below_le (suc n) f g h =
    omega (arith, h n (omega arith), sum_below_le n f g (λ k lt. h k (omega (arith, lt))))

-- of which one falls
pub sum_below_less : (n at : ℕ) (f g : ℕ → ℕ) → at < n → f at + 1 ≤ g at → ((k : ℕ) → k < n → f k ≤ g k)
    → sum_below n f + 1 ≤ sum_below n g
sum_below_less zero at f g lt one h = absurd (omega (arith, lt))
sum_below_less (suc n) at f g lt one h = elim (cases_eq at n) [
  | inl same ↦ omega (
    arith,
    subst (λ (j : ℕ). f j + 1 ≤ g j) same one,
    sum_below_le n f g (λ k k_in. h k (omega (arith, k_in))),
  )
  | inr other ↦ omega (
    arith,
    h n (omega arith),
    sum_below_less n at f g (omega (arith, lt, other)) one (λ k k_in. h k (omega (arith, k_in))),
  )
]

-- without the first of them
pub sum_below_drop : (n from : ℕ) (f : ℕ → ℕ) → sum_below n (λ k. f (from + k)) ≤ sum_below (from + n) f
sum_below_drop zero from f = omega arith
sum_below_drop (suc n) from f =
    let one : from + suc n ≡ suc (from + n) = omega arith in
    let sum : sum_below (from + suc n) f ≡ f (from + n) + sum_below (from + n) f =
    ap (λ (m : ℕ). sum_below m f) one in
    omega (arith, sum, sum_below_drop n from f)

-- ---- octets that wait

one_of : (b : Bool) → (if b then 1 else 0) ≤ 1
one_of true = omega arith
one_of false = omega arith

pub waiting_of_le : (size : ℕ) (waits : ℕ → Bool) → waiting_of size waits ≤ size
waiting_of_le zero waits = omega arith
waiting_of_le (suc n) waits = omega (arith, one_of (waits n), waiting_of_le n waits)

pub waiting_of_none : (size : ℕ) (waits : ℕ → Bool) → ((i : ℕ) → waits i ≡ false) → waiting_of size waits ≡ 0
waiting_of_none zero waits h = refl
waiting_of_none (suc n) waits h = rw (h n) (let z = waiting_of_none n waits h in omega (arith, z))

implied : (a b : Bool) → (a ≡ true → b ≡ true) → (if a then 1 else 0) ≤ (if b then 1 else 0)
implied true b h = rw (h refl) (omega arith)
implied false true h = omega arith
implied false false h = omega arith

pub waiting_of_fewer : (size : ℕ) (f g : ℕ → Bool) → ((i : ℕ) → i < size → f i ≡ true → g i ≡ true)
    → waiting_of size f ≤ waiting_of size g
waiting_of_fewer size f g h =
    sum_below_le size (λ i. if f i then 1 else 0) (λ i. if g i then 1 else 0) (λ i lt. implied (f i) (g i) (h i lt))

pub waiting_of_less : (size at : ℕ) (f g : ℕ → Bool) → at < size → f at ≡ false → g at ≡ true
    → ((i : ℕ) → i < size → f i ≡ true → g i ≡ true) → waiting_of size f + 1 ≤ waiting_of size g
waiting_of_less size at f g lt off on h =
    sum_below_less size at (λ i. if f i then 1 else 0) (λ i. if g i then 1 else 0) lt (rw (off, on) (omega arith))
    (λ i i_in. implied (f i) (g i) (h i i_in))

-- ---- a naming more

pub one_naming : (size most namings : ℕ) → namings + 1 ≤ most
    → size * (most - namings) ≡ size * (most - (namings + 1)) + size
one_naming size most namings lt =
    let e : most - namings ≡ suc (most - (namings + 1)) = omega (arith, lt) in
    ap (λ (d : ℕ). size * d) e ∙ mul-suc size (most - (namings + 1))
