-- The order of the terminals of a cell: each stands in it once.
use Rattle.std.proofs.Common.{◌≡◌, ◌<◌, ◌≤◌, ℕ, zero, suc, Bool, true, false, not, ◌&&◌, ◌==◌, nat_lt, List, [], ◌∷◌}
use Rattle.std.proofs.Common.{length, refl, sym, subst, arith, ◌⊎◌, inl, inr}
use Rattle.std.proofs.lemmas.Bool.{ltb-true}
use Rattle.std.specs.List.{list_any, list_all}
use Rattle.cell_sched.specs.Grants.{turn_order, those_before}

abbrev pub has : ℕ → List ℕ → Bool
has user users = list_any (λ other. other == user) users

abbrev pub is_distinct : List ℕ → Bool
is_distinct [] = true
is_distinct (user ∷ users) = not (has user users) && is_distinct users

abbrev pub are_few : List ℕ → Bool
are_few users = list_all (λ user. nat_lt user 8) users

-- ---- tests of all numbers below one

abbrev below : ℕ → (ℕ → Bool) → Bool
below zero test = true
below (suc n) test = test n && below n test

pub first-true : (a b : Bool) → (a && b) ≡ true → a ≡ true
first-true true b e = refl
first-true false b e = cc

pub second-true : (a b : Bool) → (a && b) ≡ true → b ≡ true
second-true true b e = e
second-true false b e = cc

last-or-below : (k n : ℕ) → k < suc n → (k ≡ n) ⊎ (k < n)
last-or-below k n lt = elim (k == n) as (λ b. (k == n) ≡ b → (k ≡ n) ⊎ (k < n)) [
  | true ↦ λ e. inl (grind arith)
  | false ↦ λ e. inr (grind arith)
] refl

is-below : (n : ℕ) (test : ℕ → Bool) → below n test ≡ true → (k : ℕ) → k < n → test k ≡ true
is-below zero test e k lt = absurd (omega (arith, lt))
is-below (suc n) test e k lt = elim (last-or-below k n lt) [
  | inl is ↦ subst (λ (j : ℕ). test j ≡ true) (sym is) (first-true (test n) (below n test) e)
  | inr less ↦ is-below n test (second-true (test n) (below n test) e) k less
]

-- ---- the orders of at most 8 terminals

abbrev same : Bool → Bool → Bool
same true b = b
same false b = not b

same-is : (a b : Bool) → same a b ≡ true → a ≡ b
same-is true true e = refl
same-is true false e = absurd (cc)
same-is false true e = absurd (cc)
same-is false false e = refl

abbrev test : ℕ → ℕ → Bool
test users first =
    (is_distinct (turn_order users first) && are_few (turn_order users first))
    && (below 8 (λ user. same (has user (turn_order users first)) (nat_lt user users))
    && below users (λ user. nat_lt (length (those_before users first user)) users))

all-pass : below 9 (λ users. below users (test users)) ≡ true
all-pass = refl

passes : (users first : ℕ) → users ≤ 8 → first < users → test users first ≡ true
passes users first few lt =
    is-below users (test users) (is-below 9 (λ users. below users (test users)) all-pass users (omega (arith, few)))
    first lt

pub distinct : (users first : ℕ) → users ≤ 8 → first < users → is_distinct (turn_order users first) ≡ true
distinct users first few lt =
    first-true _ _ (first-true _ _ (passes users first few lt))

pub few_all : (users first : ℕ) → users ≤ 8 → first < users → are_few (turn_order users first) ≡ true
few_all users first few lt =
    second-true _ _ (first-true _ _ (passes users first few lt))

pub has-order : (users first user : ℕ) → users ≤ 8 → first < users → user < 8
    → has user (turn_order users first) ≡ nat_lt user users
has-order users first user few lt one =
    same-is _ _ (is-below 8 (λ user. same (has user (turn_order users first)) (nat_lt user users))
    (first-true _ _ (second-true _ _ (passes users first few lt))) user one)

pub fewer-before : (users first user : ℕ) → users ≤ 8 → first < users → user < users
    → length (those_before users first user) < users
fewer-before users first user few lt one =
    let tells : nat_lt (length (those_before users first user)) users ≡ true =
    is-below users (λ user. nat_lt (length (those_before users first user)) users)
    (second-true _ _ (second-true _ _ (passes users first few lt))) user one in
    ltb-true _ _ tells
