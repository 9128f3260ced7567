use Rattle.std.proofs.Common.{◌≡◌, ℕ, ◌≤◌, [], length, slice_index_or}
use Rattle.eps_sec.specs.Aes.{round_key, power_of_x}
use Rattle.eps_sec.specs.Words.{state}
use Rattle.eps_sec.proofs.cipher.Schedule.new.Given as goal

abbrev pub invariant-loop-n : goal.invariant-loop-n
invariant-loop-n l = record {
  len : length l.keys ≡ 11;
  power : l.power ≡ power_of_x l.n;
  keys : (k : ℕ) → k ≤ l.n → state (slice_index_or l.keys k []) ≡ round_key l.key.octets k;
}
