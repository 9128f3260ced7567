use Rattle.std.proofs.Common.{◌≡◌, ℕ, ◌-◌, ◌*◌, ◌%◌, ◌^◌, ◌∙◌, arith}
use Rattle.std.proofs.lemmas.Nat.{one_shl, mod_below, pow_pos}
use Rattle.l2_bits.proofs.BitFields.{next_out}
use Rattle.l2_bits.proofs.writer.settle.Goals as goal

pub loop-count-preserved : goal.loop-count-preserved
loop-count-preserved c =
    let k : ℕ = c.loop-count.count - 8 in
    let p : 1 * 2 ^ k % 18446744073709551616 ≡ 2 ^ k = one_shl k 64 (omega arith) in
    let inv = c.loop-count.invariant in
    rw (p, c.push_reserved.ensures.items) (
      next_out c.loop-count.octets.items k c.loop-count.count c.loop-count.pending (omega arith) inv.1 ∙ inv.0,
      mod_below c.loop-count.pending (2 ^ k) (pow_pos k),
      omega arith,
      omega arith,
    )
