-- One number into or out of a list.
use Rattle.std.proofs.Common.{◌≡◌, ℕ, suc, ◌-◌, ◌∙◌, true, nat_lt, ◌+◌, ◌<◌, List, [], ◌∷◌, ◌++◌, length}
use Rattle.std.proofs.Common.{slice_index_or, refl, ap, arith}
use Rattle.std.specs.List.{insert, remove}
use Rattle.std.proofs.lemmas.Grind.{common_steps}
use Rattle.std.proofs.lemmas.Bool.Decides.{nat_tests}
use Rattle.rlc_am_tx_window.specs.Numbers.{inserted, without, lower, Ascend, last_below}

pub lower-there : (n : ℕ) (xs : List ℕ) → lower n xs < length xs → slice_index_or xs (lower n xs) 0 ≡ n
    → inserted n xs ≡ xs
lower-there n [] h e = absurd (omega arith)
lower-there n (x ∷ xs) h e = grind (arith, nat_tests, common_steps, lower-there n xs)

pub insert-lower : (n : ℕ) (xs : List ℕ) → ((lower n xs < length xs → slice_index_or xs (lower n xs) 0 ≡ n → ⊥))
    → insert xs (lower n xs) n ≡ inserted n xs
insert-lower n [] h = refl
insert-lower n (x ∷ xs) h = grind (arith, nat_tests, common_steps, insert-lower n xs)

is-less : (n m : ℕ) → nat_lt n m ≡ true → n < m
is-less n m e = grind (arith, nat_tests)

less-is : (n m : ℕ) → n < m → nat_lt n m ≡ true
less-is n m h = grind (arith, nat_tests)

first-below : (low n x : ℕ) (xs : List ℕ) → Ascend low (x ∷ xs) → last_below n (x ∷ xs) ≡ true → x < n
first-below low n x [] h e = is-less x n e
first-below low n x (y ∷ ys) h e = let r = first-below (x + 1) n y ys h.1 e in let a = h.1.0 in omega arith

push-last : (low n : ℕ) (xs : List ℕ) → Ascend low xs → last_below n xs ≡ true → xs ++ n ∷ [] ≡ inserted n xs
push-last low n [] h e = refl
push-last low n (x ∷ []) h e = rw e refl
push-last low n (x ∷ y ∷ ys) h e =
    rw (less-is x n (first-below low n x (y ∷ ys) h e)) (ap (λ zs. x ∷ zs) (push-last (x + 1) n (y ∷ ys) h.1 e))

pub push-behind : (n : ℕ) (xs : List ℕ) → Ascend 0 xs → last_below n xs ≡ true → xs ++ n ∷ [] ≡ inserted n xs
push-behind n xs h e = push-last 0 n xs h e

pub ascend-others : (first : ℕ) (others : List ℕ) → Ascend 0 (first ∷ others) → Ascend 0 others
ascend-others first [] h = tt
ascend-others first (x ∷ xs) h = (omega arith, h.1.1)

pub last-is : (n : ℕ) (xs : List ℕ) → 0 < length xs → last_below n xs ≡ nat_lt (slice_index_or xs (length xs - 1) 0) n
last-is n [] h = absurd (omega arith)
last-is n (x ∷ []) h = refl
last-is n (x ∷ y ∷ ys) h = last-is n (y ∷ ys) (omega arith) ∙ behind (length ys)
  where
    behind : (l : ℕ) → nat_lt (slice_index_or (y ∷ ys) (suc l - 1) 0) n
        ≡ nat_lt (slice_index_or (x ∷ y ∷ ys) (suc (suc l) - 1) 0) n
    behind l = let a : suc l - 1 ≡ l = omega arith in let b : suc (suc l) - 1 ≡ suc l = omega arith in rw (a, b) refl

pub last-none : (n : ℕ) (xs : List ℕ) → length xs ≡ 0 → last_below n xs ≡ true
last-none n [] h = refl
last-none n (x ∷ xs) h = absurd (omega arith)

pub ruleset lasts = (last-is, last-none)

pub ruleset begins = (ascend-others)

pub ruleset inserts = (lower-there, insert-lower, push-behind)

pub remove-lower : (n : ℕ) (xs : List ℕ) → lower n xs < length xs → slice_index_or xs (lower n xs) 0 ≡ n
    → remove xs (lower n xs) ≡ without n xs
remove-lower n [] h e = absurd (omega arith)
remove-lower n (x ∷ xs) h e = grind (arith, nat_tests, common_steps, remove-lower n xs)

pub without-lower : (n : ℕ) (xs : List ℕ) → (lower n xs < length xs → slice_index_or xs (lower n xs) 0 ≡ n → ⊥)
    → xs ≡ without n xs
without-lower n [] h = refl
without-lower n (x ∷ xs) h = grind (arith, nat_tests, common_steps, without-lower n xs)

pub ruleset removes = (remove-lower, without-lower)
