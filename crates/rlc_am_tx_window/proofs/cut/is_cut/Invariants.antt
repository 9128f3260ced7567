use Rattle.std.proofs.Common.{◌≡◌, drop}
use Rattle.rlc_am_tx_window.specs.Cut.{is_cut}
use Rattle.rlc_am_tx_window.proofs.cut.is_cut.Given as goal

abbrev pub invariant-loop-len : goal.invariant-loop-len
invariant-loop-len l = is_cut l.left (drop l.len-index l.lens) ≡ is_cut l.place l.lens
