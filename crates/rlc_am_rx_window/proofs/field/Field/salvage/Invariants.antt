use Rattle.std.proofs.Common.{◌≡◌, ◌≤◌, length, drop}
use Rattle.std.specs.VecDeque.Iter.{deque_iter_rest}
use Rattle.rlc_am_rx_window.specs.Joined.{joined}
use Rattle.rlc_am_rx_window.specs.Spread.{spread}
use Rattle.rlc_am_rx_window.proofs.field.Field.salvage.Given as goal

abbrev pub invariant-loop-stretch : goal.invariant-loop-stretch
invariant-loop-stretch l = record {
  few : length (spread (deque_iter_rest l.stretch-iterator) l.self-inside.tail) ≤ 32767;
  rest : joined l.out (drop l.left (spread (deque_iter_rest l.stretch-iterator) l.self-inside.tail))
      ≡ joined l.fn.out (drop l.from (spread l.self-inside.stretches.items l.self-inside.tail));
}
