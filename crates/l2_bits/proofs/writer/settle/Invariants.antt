use Rattle.std.proofs.Common.{◌≡◌, ◌+◌, ◌/◌, ◌^◌, ◌<◌, ◌≤◌, ◌++◌, vec_len}
use Rattle.std.specs.Prelude.{vec_capacity}
use Rattle.l2_bits.specs.Bits.{bits, bits_of}
use Rattle.l2_bits.proofs.writer.settle.Given as goal

abbrev pub invariant-loop-count : goal.invariant-loop-count
invariant-loop-count l =
    (bits_of l.octets.items ++ bits l.count l.pending ≡ bits_of l.fn.octets.items ++ bits l.fn.count l.fn.pending)
    × (l.pending < 2 ^ l.count) × (l.count < 40) × (vec_len l.octets + l.count / 8 ≤ vec_capacity l.octets)

abbrev pub decreases-loop-count : goal.decreases-loop-count
decreases-loop-count l = l.count
