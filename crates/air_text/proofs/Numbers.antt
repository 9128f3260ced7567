use Rattle.std.proofs.Common.{◌≤◌, ◌+◌, ◌*◌, ◌-◌, ℕ, List, [], ◌∷◌, arith}
use Rattle.text_digits.specs.Numerals.{value_behind}

pub value_behind_grows : (n : ℕ) (xs : List ℕ) → n ≤ value_behind n xs
value_behind_grows n [] = omega arith
value_behind_grows n (x ∷ xs) = omega (arith, value_behind_grows (n * 10 + (x - 48)) xs)
