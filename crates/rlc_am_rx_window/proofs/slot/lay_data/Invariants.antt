use Rattle.std.proofs.Common.{◌≡◌, ◌+◌, ◌≤◌, Some, length, map}
use Rattle.rlc_pdu.specs.Views.{elements_of}
use Rattle.rlc_am_rx_window.specs.Cells.{laid}
use Rattle.rlc_am_rx_window.specs.Piece.{octets_in, so_of, data_cells, begins_in, ends_in}
use Rattle.rlc_am_rx_window.specs.Spread.{laid_on}
use Rattle.rlc_am_rx_window.proofs.slot.lay_data.Given as goal

abbrev pub invariant-loop-element : goal.invariant-loop-element
invariant-loop-element l = record {
  count : l.at + octets_in l.walk ≡ so_of l.pdu.segment + octets_in (elements_of l.pdu.elements);
  place : length l.laying.done ≡ l.at + l.laying.passed;
  held : length l.laying.done + length l.laying.rest ≤ 32767;
  rest : laid_on l.laying.done l.laying.rest l.laying.passed (map (λ c. Some c) (data_cells l.begins l.ends l.walk))
      ≡ laid l.fn.field (so_of l.pdu.segment)
      (data_cells (begins_in l.pdu.fi) (ends_in l.pdu.fi) (elements_of l.pdu.elements));
}

abbrev pub decreases-loop-element : goal.decreases-loop-element
decreases-loop-element l = length l.walk
