use Rattle.std.proofs.Common.{◌≡◌, ℕ, ◌<◌, length, slice_index}
use Rattle.std.specs.Prelude.{bit_xor}
use Rattle.eps_sec.proofs.integrity.add_blocks.Given as goal

abbrev pub invariant-loop-j : goal.invariant-loop-j
invariant-loop-j l = record {
  len : length l.sum ≡ 16;
  places : (k : ℕ) → k < l.j → slice_index l.sum k ≡ bit_xor (slice_index l.s k) (slice_index l.k k);
}
