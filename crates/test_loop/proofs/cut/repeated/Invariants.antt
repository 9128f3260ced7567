use Rattle.std.proofs.Common.{◌≡◌, ℕ, ◌+◌, ◌*◌, length}
use Rattle.test_loop.proofs.RepeatLemmas.{Repeats}
use Rattle.test_loop.proofs.cut.repeated.Given as goal

abbrev pub invariant-loop-left : goal.invariant-loop-left
invariant-loop-left l = record {
  size : length l.octets + l.left ≡ l.size;
  rows : (n : ℕ) × (length l.octets ≡ n * length l.sdu);
  repeats : Repeats l.sdu l.octets;
}

abbrev pub decreases-loop-left : goal.decreases-loop-left
decreases-loop-left l = l.left
