-- Timers over many TTIs.
use Rattle.std.proofs.Common.{◌≡◌, ℕ, zero, suc, ◌-◌, ◌==◌, Some, arith, ap, ◌∙◌}
use Rattle.std.proofs.lemmas.Bool.Decides.{nat_tests}
use Rattle.l2_num.specs.Timers.{Clock, clock, begun, ticked, ends, after_ticks}

-- what is left after so many TTIs, for a timer that was set
pub after_ticks-begun : (c : Clock) (k : ℕ) → after_ticks k (begun c) ≡ clock c.length (Some (c.length - k))
after_ticks-begun c zero = ap (λ (n : ℕ). clock c.length (Some n)) (omega arith)
after_ticks-begun c (suc k) = ap ticked (after_ticks-begun c k) ∙ ap (λ (n : ℕ). clock c.length (Some n)) (omega arith)

pub ends-begun : (c : Clock) (k : ℕ) → ends (after_ticks k (begun c)) ≡ (suc k == c.length)
ends-begun c k = ap ends (after_ticks-begun c k) ∙ grind (arith, nat_tests)
