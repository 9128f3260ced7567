use Rattle.std.proofs.Common.{◌≡◌, ◌+◌, ◌^◌, ◌<◌, length}
use Rattle.rlc_pdu.specs.Views.{elements_of}
use Rattle.rlc_am_rx_window.specs.Piece.{octets_in, so_of}
use Rattle.rlc_am_rx_window.proofs.piece.end_of.Given as goal

abbrev pub invariant-loop-element : goal.invariant-loop-element
invariant-loop-element l = record {
  fits : l.end < 2 ^ 33;
  rest : l.end + octets_in (elements_of l.elements) ≡ so_of l.pdu.segment + octets_in (elements_of l.pdu.elements);
}

abbrev pub decreases-loop-element : goal.decreases-loop-element
decreases-loop-element l = length (elements_of l.elements)
