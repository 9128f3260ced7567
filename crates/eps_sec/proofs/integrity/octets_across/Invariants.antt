use Rattle.std.proofs.Common.{◌≡◌, ℕ, ◌<◌, ◌+◌, ◌++◌, length, slice_index}
use Rattle.eps_sec.proofs.integrity.octets_across.Given as goal

abbrev pub invariant-loop-j : goal.invariant-loop-j
invariant-loop-j l = record {
  len : length l.block ≡ 16;
  places : (k : ℕ) → k < l.j → slice_index l.block k ≡ slice_index (l.head ++ l.body ++ l.tail) (l.start + k);
}
