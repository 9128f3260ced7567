use Rattle.std.proofs.Common.{◌≡◌, ◌++◌, map, length}
use Rattle.l2_c.specs.Rlc.{nack_seen}
use Rattle.l2_c.proofs.rlc_writing.entries_of.Given as goal

abbrev pub invariant-loop-rest : goal.invariant-loop-rest
invariant-loop-rest l = l.entries ++ map nack_seen l.rest ≡ map nack_seen l.nacks

abbrev pub decreases-loop-rest : goal.decreases-loop-rest
decreases-loop-rest l = length l.rest
