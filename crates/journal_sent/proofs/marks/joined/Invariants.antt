use Rattle.std.proofs.Common.{◌≡◌, ◌++◌, length}
use Rattle.std.specs.List.{concat}
use Rattle.rlc_pdu.specs.Views.{elements_of}
use Rattle.journal_sent.proofs.marks.joined.Given as goal

abbrev pub invariant-loop-octets : goal.invariant-loop-octets
invariant-loop-octets l =
    l.field ++ concat (elements_of l.elements) ≡ concat (elements_of l.fn.elements)

abbrev pub decreases-loop-octets : goal.decreases-loop-octets
decreases-loop-octets l = length (elements_of l.elements)
