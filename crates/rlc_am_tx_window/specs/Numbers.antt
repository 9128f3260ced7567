-- Ascending numbers (TS 36.322 7.1).
use Rattle.std.specs.Prelude.{ℕ, ◌≤◌, Bool, true, ◌+◌, ◌==◌, if◌then◌else◌, List, [], ◌∷◌, Option}
use Rattle.std.specs.Prelude.{Some, None, nat_lt}

-- the first, if there is one, and the others
abbrev pub numbers : Option ℕ → List ℕ → List ℕ
numbers None others = others
numbers (Some n) others = n ∷ others

-- with a number
abbrev pub inserted : ℕ → List ℕ → List ℕ
inserted n [] = n ∷ []
inserted n (x ∷ xs) = if nat_lt x n then x ∷ inserted n xs else if x == n then x ∷ xs
    else n ∷ x ∷ xs

-- without a number
abbrev pub without : ℕ → List ℕ → List ℕ
without n [] = []
without n (x ∷ xs) = if nat_lt x n then x ∷ without n xs else if x == n then xs else x ∷ xs

-- how many stand first that are below a number
abbrev pub lower : ℕ → List ℕ → ℕ
lower n [] = 0
lower n (x ∷ xs) = if nat_lt x n then lower n xs + 1 else 0

-- from a number on they ascend
abbrev pub Ascend : ℕ → List ℕ → Type 0
Ascend low [] = Unit {0}
Ascend low (x ∷ xs) = (low ≤ x) × Ascend (x + 1) xs

-- the last is below a number
abbrev pub last_below : ℕ → List ℕ → Bool
last_below n [] = true
last_below n (x ∷ []) = nat_lt x n
last_below n (x ∷ y ∷ xs) = last_below n (y ∷ xs)
