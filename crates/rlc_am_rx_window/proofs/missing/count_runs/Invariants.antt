use Rattle.std.proofs.Common.{◌≡◌, ◌+◌, ◌≤◌, length, None}
use Rattle.std.specs.VecDeque.Iter.{deque_iter_rest}
use Rattle.rlc_am_rx_window.specs.Missing.{runs}
use Rattle.rlc_am_rx_window.specs.Spread.{spread}
use Rattle.rlc_am_rx_window.proofs.missing.count_runs.Given as goal

abbrev pub invariant-loop-stretch : goal.invariant-loop-stretch
invariant-loop-stretch l = record {
  place : l.at + length (spread (deque_iter_rest l.stretch-iterator) l.tail) ≡ length l.field;
  few : l.count ≤ l.at;
  rest : l.count + length (runs (spread (deque_iter_rest l.stretch-iterator) l.tail) l.at None l.ended)
      ≡ length (runs l.field 0 None l.ended);
}
