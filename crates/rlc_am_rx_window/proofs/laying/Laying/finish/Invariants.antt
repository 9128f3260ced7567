use Rattle.std.proofs.Common.{◌≡◌, ◌+◌, ◌≤◌, ◌++◌, length}
use Rattle.rlc_am_rx_window.proofs.laying.Laying.finish.Given as goal

abbrev pub invariant-loop-first : goal.invariant-loop-first
invariant-loop-first l = record {
  held : length l.done + length l.rest ≤ 32767;
  cells : l.done ++ l.rest ≡ l.fn.self.done ++ l.fn.self.rest;
}

abbrev pub decreases-loop-first : goal.decreases-loop-first
decreases-loop-first l = length l.rest
