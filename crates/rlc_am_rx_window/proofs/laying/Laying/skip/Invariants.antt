use Rattle.std.proofs.Common.{◌≡◌, ◌+◌, ◌≤◌, ◌++◌, List, Option, None, length, replicate}
use Rattle.rlc_am_rx_window.specs.Cells.{Cell}
use Rattle.rlc_am_rx_window.specs.Spread.{laid_on}
use Rattle.rlc_am_rx_window.proofs.laying.Laying.skip.Given as goal

abbrev pub invariant-loop-first : goal.invariant-loop-first
invariant-loop-first l = record {
  start : l.self.passed ≡ 0;
  held : length l.self.done + length l.self.rest ≤ 32767;
  place : length l.self.done + l.left ≡ length l.fn.self.done + l.places;
  cells : (xs : List (Option Cell)) → laid_on l.self.done l.self.rest 0 (replicate l.left None ++ xs)
      ≡ laid_on l.fn.self.done l.fn.self.rest 0 (replicate l.places None ++ xs);
}

abbrev pub decreases-loop-first : goal.decreases-loop-first
decreases-loop-first l = length l.self.rest
