use Rattle.std.proofs.Common.{◌≡◌, ◌+◌, ◌*◌, ◌≤◌, ◌^◌, length}
use Rattle.rlc_am_tx_window.specs.Window.{waiting_in}
use Rattle.rlc_am_tx_window.proofs.ring.waiting_octets.Given as goal

abbrev pub invariant-loop-slot : goal.invariant-loop-slot
invariant-loop-slot l = record {
  rest : l.total + waiting_in l.slot-iterator ≡ waiting_in l.ring.items;
  below : l.total + 2 ^ 15 * length l.slot-iterator ≤ 2 ^ 15 * length l.ring.items;
}
