use Rattle.std.proofs.Common.{◌≡◌, ◌+◌, length}
use Rattle.rlc_pdu.specs.Views.{elements_of}
use Rattle.rlc_am_rx_window.specs.Piece.{octets_in}
use Rattle.journal_flows.proofs.parcels.octets_in.Given as goal

abbrev pub invariant-loop-element : goal.invariant-loop-element
invariant-loop-element l = l.count + octets_in (elements_of l.elements) ≡ octets_in (elements_of l.fn.elements)

abbrev pub decreases-loop-element : goal.decreases-loop-element
decreases-loop-element l = length (elements_of l.elements)
