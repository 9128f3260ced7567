use Rattle.std.proofs.Common.{◌≡◌, ◌≤◌, ◌++◌, map, take, length}
use Rattle.rlc_pdu.specs.Views.{elements_of}
use Rattle.l2_c.specs.Rlc.{element_seen}
use Rattle.l2_c.proofs.rlc.fill_elements.Given as goal

abbrev pub invariant-loop-octets : goal.invariant-loop-octets
invariant-loop-octets l =
    (l.at ≤ length l.elements) × (length l.elements ≡ length l.fn.elements)
    × (elements_of l.left ≡ map element_seen (take l.at l.elements) ++ elements_of l.rest)

abbrev pub decreases-loop-octets : goal.decreases-loop-octets
decreases-loop-octets l = length (elements_of l.rest)
