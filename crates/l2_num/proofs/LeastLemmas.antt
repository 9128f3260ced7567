-- The first number from one on that a test refuses.
use Rattle.std.proofs.Common.{◌≡◌, ◌<◌, ◌≤◌, ℕ, zero, suc, ◌+◌, Bool, true, false, arith}
use Rattle.l2_num.specs.Least.{IsLeast, past}

pub past_from : (passes : ℕ → Bool) (fuel p : ℕ) → p ≤ past passes fuel p
past_from passes zero p = omega arith
past_from passes (suc fuel) p = let ih = past_from passes fuel (p + 1) in grind (arith, ih)

pub past_to : (passes : ℕ → Bool) (fuel p : ℕ) → past passes fuel p ≤ p + fuel
past_to passes zero p = omega arith
past_to passes (suc fuel) p = let ih = past_to passes fuel (p + 1) in grind (arith, ih)

pub past_before : (passes : ℕ → Bool) (fuel p n : ℕ) → p ≤ n → n < past passes fuel p → passes n ≡ true
past_before passes zero p n from lt = absurd (omega arith)
past_before passes (suc fuel) p n from lt = let ih = past_before passes fuel (p + 1) n in grind (arith, ih)

pub past_stops : (passes : ℕ → Bool) (fuel p : ℕ) → past passes fuel p < p + fuel → passes (past passes fuel p) ≡ false
past_stops passes zero p lt = absurd (omega arith)
past_stops passes (suc fuel) p lt = let ih = past_stops passes fuel (p + 1) in grind (arith, ih)

-- where the numbers from p to q pass, and one from q on is refused, the search from q on finds the first from p on
pub past_least : (passes : ℕ → Bool) (p q fuel : ℕ) → p ≤ q → ((n : ℕ) → p ≤ n → n < q → passes n ≡ true)
    → passes (q + fuel) ≡ false → IsLeast passes p (past passes fuel q)
past_least passes p q fuel from all e =
    let low = past_from passes fuel q in
    let high = past_to passes fuel q in
    record {
      from = omega arith;
      refused = grind (arith, past_stops passes fuel q);
      before = λ n a b. grind (arith, all n, past_before passes fuel q n);
    }
