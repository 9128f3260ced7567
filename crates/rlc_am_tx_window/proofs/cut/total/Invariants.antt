use Rattle.std.proofs.Common.{◌≡◌, ◌+◌, drop}
use Rattle.std.specs.List.{sum}
use Rattle.rlc_am_tx_window.proofs.cut.total.Given as goal

abbrev pub invariant-loop-len : goal.invariant-loop-len
invariant-loop-len l = l.total + sum (drop l.len-index l.lens) ≡ sum l.lens
