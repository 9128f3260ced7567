use Rattle.std.proofs.Common.{◌≡◌, ◌-◌}
use Rattle.std.specs.Prelude.{bit_xor}
use Rattle.eps_sec.specs.Field.{sum_of_products}
use Rattle.eps_sec.proofs.field.times.Given as goal

abbrev pub invariant-loop-i : goal.invariant-loop-i
invariant-loop-i l = bit_xor l.sum (sum_of_products (8 - l._i) l.power l.rest) ≡ sum_of_products 8 l.a l.b
