use Rattle.std.proofs.Common.{◌≡◌, drop, length, ◌≤◌}
use Rattle.std.specs.VecDeque.Iter.{deque_iter_rest}
use Rattle.rlc_am_rx_window.specs.Cells.{leading}
use Rattle.rlc_am_rx_window.specs.Joined.{joined}
use Rattle.rlc_am_rx_window.specs.Spread.{spread}
use Rattle.rlc_am_rx_window.proofs.reading.give.Given as goal

abbrev pub invariant-loop-stretch : goal.invariant-loop-stretch
invariant-loop-stretch l = record {
  few : length (spread (deque_iter_rest l.stretch-iterator) 0) ≤ 32767;
  rest : joined l.out (leading (drop l.left (spread (deque_iter_rest l.stretch-iterator) 0)))
      ≡ joined l.fn.out (leading (drop l.from (spread l.stretches.items 0)));
}
