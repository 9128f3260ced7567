use Rattle.std.proofs.Common.{◌≡◌, ◌+◌, length, true}
use Rattle.rlc_pdu.specs.Views.{elements_of}
use Rattle.rlc_am_rx_window.specs.Cells.{ends_otherwise}
use Rattle.rlc_am_rx_window.specs.Piece.{octets_in, so_of, data_cells, begins_in, ends_in}
use Rattle.rlc_am_rx_window.proofs.slot.Slot.ends_otherwise.Given as goal

abbrev pub invariant-loop-element : goal.invariant-loop-element
invariant-loop-element l = record {
  count : l.at + octets_in l.walk ≡ so_of l.pdu.segment + octets_in (elements_of l.pdu.elements);
  rest : ends_otherwise l.self.cells l.at (data_cells true l.ends l.walk)
      ≡ ends_otherwise l.self.cells (so_of l.pdu.segment)
      (data_cells (begins_in l.pdu.fi) (ends_in l.pdu.fi) (elements_of l.pdu.elements));
}

abbrev pub decreases-loop-element : goal.decreases-loop-element
decreases-loop-element l = length l.walk
