use Rattle.std.proofs.Common.{arith, ap, length}
use Rattle.rlc_um.proofs.Sums.{total_push, fits_push, some_push}
use Rattle.rlc_um.proofs.tm_tx.TmTx.add.Goals as goal

pub invariant_of-self : goal.invariant_of-self
invariant_of-self c =
    let len = ap length c.as_slice-len.ensures in
    let total = total_push _ _ _ _ c.in-Ok.ensures c.self.invariant.2 in (
      fits_push _ _ _ _ _ c.in-Ok.ensures (omega arith),
      omega (arith, len),
      rw len total,
      some_push _ _ _ c.in-Ok.ensures c.self.invariant.3 (omega arith),
    )
