use Rattle.std.proofs.Common.{◌≡◌, ◌+◌, length}
use Rattle.rlc_pdu.specs.Views.{elements_of}
use Rattle.journal_form.proofs.rlc.count_of.Given as goal

abbrev pub invariant-loop-element : goal.invariant-loop-element
invariant-loop-element l =
    l.count + length (elements_of l.elements) ≡ length (elements_of l.fn.elements)

abbrev pub decreases-loop-element : goal.decreases-loop-element
decreases-loop-element l = length (elements_of l.elements)
