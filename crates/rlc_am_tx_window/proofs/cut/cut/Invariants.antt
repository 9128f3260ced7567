use Rattle.std.proofs.Common.{◌≡◌, ◌++◌, drop, false}
use Rattle.rlc_am_tx_window.specs.Cut.{cut}
use Rattle.rlc_am_tx_window.proofs.cut.cut.Given as goal

abbrev pub invariant-loop-len : goal.invariant-loop-len
invariant-loop-len l = l.out.items ++ cut l.half l.room (drop l.len-index l.lens) ≡ cut false l.size l.lens
