use Rattle.std.proofs.Common.{◌≡◌, ◌++◌, map, length}
use Rattle.std.specs.List.{concat}
use Rattle.l2_c.specs.Rlc.{element_seen}
use Rattle.l2_c.proofs.rlc_writing.field_of.Given as goal

abbrev pub invariant-loop-rest : goal.invariant-loop-rest
invariant-loop-rest l = l.field ++ concat (map element_seen l.rest) ≡ concat (map element_seen l.elements)

abbrev pub decreases-loop-rest : goal.decreases-loop-rest
decreases-loop-rest l = length l.rest
