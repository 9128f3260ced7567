use Rattle.std.proofs.Common.{◌≡◌, ◌++◌, length, map}
use Rattle.rlc_pdu.specs.Views.{elements_of}
use Rattle.pdu_show.proofs.rlc.lens.Given as goal

abbrev pub invariant-loop-element : goal.invariant-loop-element
invariant-loop-element l = l.lens ++ map length (elements_of l.elements) ≡ map length (elements_of l.fn.elements)

abbrev pub decreases-loop-element : goal.decreases-loop-element
decreases-loop-element l = length (elements_of l.elements)
