use Rattle.std.proofs.Common.{◌≡◌, ◌≤◌, ◌++◌, map, take, length}
use Rattle.rlc_pdu.specs.Views.{nacks_of}
use Rattle.l2_c.specs.Rlc.{nack_seen}
use Rattle.l2_c.proofs.rlc.fill_nacks.Given as goal

abbrev pub invariant-loop-nack : goal.invariant-loop-nack
invariant-loop-nack l =
    (l.at ≤ length l.nacks) × (length l.nacks ≡ length l.fn.nacks)
    × (nacks_of l.left ≡ map nack_seen (take l.at l.nacks) ++ nacks_of l.rest)

abbrev pub decreases-loop-nack : goal.decreases-loop-nack
decreases-loop-nack l = length (nacks_of l.rest)
