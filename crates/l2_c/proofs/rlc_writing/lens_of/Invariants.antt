use Rattle.std.proofs.Common.{◌≡◌, ◌++◌, map, length}
use Rattle.l2_c.specs.Rlc.{element_seen, AreShort}
use Rattle.l2_c.proofs.rlc_writing.lens_of.Given as goal

abbrev pub invariant-loop-rest : goal.invariant-loop-rest
invariant-loop-rest l =
    (l.lens.items ++ map length (map element_seen l.rest) ≡ map length (map element_seen l.elements))
    × AreShort (map element_seen l.rest)

abbrev pub decreases-loop-rest : goal.decreases-loop-rest
decreases-loop-rest l = length l.rest
