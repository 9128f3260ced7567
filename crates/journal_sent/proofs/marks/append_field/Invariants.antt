use Rattle.std.proofs.Common.{◌≡◌, ◌++◌, length}
use Rattle.rlc_pdu.specs.Views.{elements_of}
use Rattle.journal_sent.specs.Marks.{field_marks}
use Rattle.journal_sent.proofs.marks.append_field.Given as goal

abbrev pub invariant-loop-octets : goal.invariant-loop-octets
invariant-loop-octets l =
    l.marks ++ field_marks l.begins l.ends (elements_of l.elements)
    ≡ l.fn.marks ++ field_marks l.fn.begins l.fn.ends (elements_of l.fn.elements)

abbrev pub decreases-loop-octets : goal.decreases-loop-octets
decreases-loop-octets l = length (elements_of l.elements)
