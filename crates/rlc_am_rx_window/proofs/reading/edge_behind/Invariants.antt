use Rattle.std.proofs.Common.{◌≡◌, length, ◌≤◌}
use Rattle.std.specs.VecDeque.Iter.{deque_iter_rest}
use Rattle.rlc_am_rx_window.specs.Cells.{edge_behind}
use Rattle.rlc_am_rx_window.specs.Spread.{spread}
use Rattle.rlc_am_rx_window.proofs.reading.edge_behind.Given as goal

abbrev pub invariant-loop-stretch : goal.invariant-loop-stretch
invariant-loop-stretch l = record {
  few : length (spread (deque_iter_rest l.stretch-iterator) 0) ≤ 32767;
  rest : edge_behind (spread (deque_iter_rest l.stretch-iterator) 0) l.left
      ≡ edge_behind (spread l.stretches.items 0) l.at;
}
