use Rattle.std.proofs.Common.{◌≡◌, map, length}
use Rattle.l2_c.specs.Rlc.{elements_fit, element_seen}
use Rattle.l2_c.proofs.rlc_writing.elements_fit.Given as goal

abbrev pub invariant-loop-rest : goal.invariant-loop-rest
invariant-loop-rest l = elements_fit (map element_seen l.elements) ≡ elements_fit (map element_seen l.rest)

abbrev pub decreases-loop-rest : goal.decreases-loop-rest
decreases-loop-rest l = length l.rest
