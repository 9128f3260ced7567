use Rattle.std.proofs.Common.{◌≡◌, ◌++◌, drop}
use Rattle.rlc_am_tx_window.specs.Cut.{clip}
use Rattle.rlc_am_tx_window.proofs.cut.clip.Given as goal

abbrev pub invariant-loop-len : goal.invariant-loop-len
invariant-loop-len l = l.out.items ++ clip l.start l.end (drop l.len-index l.lens) ≡ clip l.from l.to l.lens
