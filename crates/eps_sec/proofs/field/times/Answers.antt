use Rattle.std.proofs.Common.{◌≡◌, ℕ, suc, ◌+◌, ◌-◌, ◌*◌, ◌/◌, ◌%◌, ◌∙◌, arith, sym}
use Rattle.std.specs.Int.Bits.{bit_xor, xor_assoc, xor_zero_l, xor_zero_r}
use Rattle.eps_sec.specs.Field.{times, xtime, sum_of_products}
use Rattle.eps_sec.proofs.field.times.Goals as goal

step : (s n a b w : ℕ) → bit_xor s (sum_of_products (suc n) a b) ≡ w
    → bit_xor (bit_xor s ((b % 2) * a)) (sum_of_products n (xtime a) (b / 2)) ≡ w
step s n a b w h = xor_assoc s ((b % 2) * a) (sum_of_products n (xtime a) (b / 2)) ∙ h

pub loop-i-init : goal.loop-i-init
loop-i-init c = xor_zero_l (sum_of_products 8 c.args.a c.args.b)

pub loop-i-preserved : goal.loop-i-preserved
loop-i-preserved c =
    let left : 8 - c.loop-i._i ≡ suc (8 - (c.loop-i._i + 1)) = omega arith in
    rw c.xtime-power.ensures
    (step c.loop-i.sum (8 - (c.loop-i._i + 1)) c.loop-i.power c.loop-i.rest _ (rw left at c.loop-i.invariant))

pub returns : goal.returns
unfolding times
returns c =
    let done : 8 - c.loop-i._i ≡ 0 = omega arith in
    sym (xor_zero_r c.loop-i.sum) ∙ (rw done at c.loop-i.invariant)
