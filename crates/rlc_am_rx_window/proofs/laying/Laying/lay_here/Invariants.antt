use Rattle.std.proofs.Common.{◌≡◌, ◌+◌, ◌≤◌, ◌++◌, List, Option, Some, length, map}
use Rattle.rlc_am_rx_window.specs.Cells.{Cell}
use Rattle.rlc_am_rx_window.specs.Piece.{element_cells}
use Rattle.rlc_am_rx_window.specs.Spread.{laid_on}
use Rattle.rlc_am_rx_window.proofs.laying.Laying.lay_here.Given as goal

abbrev pub invariant-loop-first : goal.invariant-loop-first
invariant-loop-first l = record {
  start : l.self.passed ≡ 0;
  held : length l.self.done + length l.self.rest ≤ 32767;
  place : length l.self.done + length l.octets ≡ length l.fn.self.done + length l.fn.octets;
  cells : (xs : List (Option Cell))
      → laid_on l.self.done l.self.rest 0 (map (λ c. Some c) (element_cells l.begins l.ends l.octets) ++ xs)
      ≡ laid_on l.fn.self.done l.fn.self.rest 0
      (map (λ c. Some c) (element_cells l.fn.begins l.ends l.fn.octets) ++ xs);
}

abbrev pub decreases-loop-first : goal.decreases-loop-first
decreases-loop-first l = length l.self.rest
