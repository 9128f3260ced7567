use Rattle.std.proofs.Common.{◌≡◌, length, ◌≤◌}
use Rattle.std.specs.VecDeque.Iter.{deque_iter_rest}
use Rattle.rlc_am_rx_window.specs.Spread.{spread, ends_within}
use Rattle.rlc_am_rx_window.proofs.reading.ends_within.Given as goal

abbrev pub invariant-loop-stretch : goal.invariant-loop-stretch
invariant-loop-stretch l = record {
  few : length (spread (deque_iter_rest l.stretch-iterator) 0) ≤ 32767;
  rest : ends_within (spread (deque_iter_rest l.stretch-iterator) 0) l.low l.high
      ≡ ends_within (spread l.stretches.items 0) l.from l.to;
}
