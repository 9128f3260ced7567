use Rattle.std.proofs.Common.{◌≡◌, ◌+◌, ◌++◌, length, map, None}
use Rattle.std.specs.VecDeque.Iter.{deque_iter_rest}
use Rattle.rlc_am_rx_window.specs.Missing.{runs, of_part}
use Rattle.rlc_am_rx_window.specs.Spread.{spread}
use Rattle.rlc_am_rx_window.proofs.missing.add_runs.Given as goal

abbrev pub invariant-loop-stretch : goal.invariant-loop-stretch
invariant-loop-stretch l = record {
  place : l.at + length (spread (deque_iter_rest l.stretch-iterator) l.tail) ≡ length l.field;
  rest : l.out.items ++ map (of_part l.number)
      (runs (spread (deque_iter_rest l.stretch-iterator) l.tail) l.at None l.ended)
      ≡ l.fn.out.items ++ map (of_part l.number) (runs l.field 0 None l.ended);
}
