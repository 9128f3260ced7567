-- Numbers of few digits.
use Rattle.std.proofs.Common.{◌≡◌, ◌<◌, ◌≤◌, ◌+◌, ◌/◌, ◌%◌, ◌∙◌, ℕ, List, [], ◌∷◌, ◌++◌, ap, arith}
use Rattle.std.specs.Fmt.{decimal}
use Rattle.std.proofs.lemmas.Fmt.{decimal_digit, decimal_step}

-- the last digit behind those of a tenth
behind : (n : ℕ) (front : List ℕ) → 10 ≤ n → n < 10000 → decimal (n / 10) ≡ front
    → decimal n ≡ front ++ ((48 + n % 10) ∷ [])
behind n front low high e =
    decimal_step n low (omega (arith, high)) ∙ ap (λ (ds : List ℕ). ds ++ ((48 + n % 10) ∷ [])) e

pub decimal_two : (n : ℕ) → 10 ≤ n → n < 100 → decimal n ≡ (48 + n / 10) ∷ (48 + n % 10) ∷ []
decimal_two n low high = behind n _ low (omega (arith, high)) (decimal_digit (n / 10) (omega (arith, high)))

pub decimal_three : (n : ℕ) → 100 ≤ n → n < 1000
    → decimal n ≡ (48 + n / 10 / 10) ∷ (48 + n / 10 % 10) ∷ (48 + n % 10) ∷ []
decimal_three n low high = behind n _ (omega (arith, low)) (omega (arith, high))
    (decimal_two (n / 10) (omega (arith, low)) (omega (arith, high)))

pub decimal_four : (n : ℕ) → 1000 ≤ n → n < 10000
    → decimal n ≡ (48 + n / 10 / 10 / 10) ∷ (48 + n / 10 / 10 % 10) ∷ (48 + n / 10 % 10) ∷ (48 + n % 10) ∷ []
decimal_four n low high = behind n _ (omega (arith, low)) high
    (decimal_three (n / 10) (omega (arith, low)) (omega (arith, high)))

pub ruleset digits = (decimal_two, decimal_three, decimal_four)
