use Rattle.std.proofs.Common.{◌≡◌, ◌+◌, length}
use Rattle.std.specs.VecDeque.Iter.{deque_iter_rest}
use Rattle.rlc_am_rx_window.specs.Spread.{spread}
use Rattle.rlc_am_rx_window.proofs.field.Field.len.Given as goal

abbrev pub invariant-loop-stretch : goal.invariant-loop-stretch
invariant-loop-stretch l = l.len + length (spread (deque_iter_rest l.stretch-iterator) l.self-inside.tail)
    ≡ length (spread l.self-inside.stretches.items l.self-inside.tail)
