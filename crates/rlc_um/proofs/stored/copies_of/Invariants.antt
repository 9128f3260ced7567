use Rattle.std.proofs.Common.{◌≡◌, ◌++◌, length}
use Rattle.rlc_pdu.specs.Views.{elements_of}
use Rattle.rlc_um.proofs.stored.copies_of.Given as goal

abbrev pub invariant-elements : goal.invariant-elements
invariant-elements l = l.copies ++ elements_of l.rest ≡ elements_of l.elements

abbrev pub decreases-elements : goal.decreases-elements
decreases-elements l = length (elements_of l.rest)
