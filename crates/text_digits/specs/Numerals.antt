-- Decimal numbers (docs/formats/SCRIPT.md).
use Rattle.std.specs.Prelude.{ℕ, ◌+◌, ◌*◌, ◌-◌, Bool, ◌&&◌, nat_le, List, [], ◌∷◌}

abbrev pub is_digit : ℕ → Bool
is_digit x = nat_le 48 x && nat_le x 57

-- the number that digits say, behind a number that was read
abbrev pub value_behind : ℕ → List ℕ → ℕ
value_behind n [] = n
value_behind n (x ∷ xs) = value_behind (n * 10 + (x - 48)) xs
