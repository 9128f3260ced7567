-- The first number from one on that a test refuses, as VT(A), VR(R), VR(MS) and VR(UR) are (TS
-- 36.322 7.1).
use Rattle.std.specs.Prelude.{◌≡◌, ℕ, zero, suc, ◌<◌, ◌≤◌, ◌+◌, Bool, true, false, if◌then◌else◌}

-- q is the first number from p on that the test refuses
pub record IsLeast (passes : ℕ → Bool) (p q : ℕ) : Type 0 where
  pub from : p ≤ q
  pub refused : passes q ≡ false
  pub before : (n : ℕ) → p ≤ n → n < q → passes n ≡ true

-- it again as a search over so many numbers from p on
abbrev pub past : (ℕ → Bool) → ℕ → ℕ → ℕ
past passes zero p = p
past passes (suc fuel) p = if passes p then past passes fuel (p + 1) else p
