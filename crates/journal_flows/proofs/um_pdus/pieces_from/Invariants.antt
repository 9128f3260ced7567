use Rattle.std.proofs.Common.{◌≡◌, ◌++◌, length}
use Rattle.rlc_pdu.specs.Views.{elements_of}
use Rattle.journal_flows.specs.UmPdus.{pieces_from}
use Rattle.journal_flows.proofs.um_pdus.pieces_from.Given as goal

abbrev pub invariant-loop-octets : goal.invariant-loop-octets
invariant-loop-octets l =
    l.pieces ++ pieces_from l.place l.begins l.ends (elements_of l.elements)
    ≡ pieces_from l.fn.place l.fn.begins l.fn.ends (elements_of l.fn.elements)

abbrev pub decreases-loop-octets : goal.decreases-loop-octets
decreases-loop-octets l = length (elements_of l.elements)
