use Rattle.std.proofs.Common.{◌≡◌, length, drop, take}
use Rattle.rlc_pdu.specs.Views.{elements_of}
use Rattle.promises.specs.Names.{whole_sdus}
use Rattle.journal_form.specs.Tests.{are_pdcp}
use Rattle.journal_form.proofs.rlc.are_pdcp.Given as goal

abbrev pub invariant-loop-element : goal.invariant-loop-element
invariant-loop-element l =
    are_pdcp l.kind (drop l.before (take l.end (elements_of l.elements)))
    ≡ are_pdcp l.fn.kind (whole_sdus l.fn.fi (elements_of l.fn.elements))

abbrev pub decreases-loop-element : goal.decreases-loop-element
decreases-loop-element l = length (elements_of l.elements)
