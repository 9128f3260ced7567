use Rattle.std.proofs.Common.{◌≡◌, ◌+◌, ◌≤◌, drop, length}
use Rattle.rlc_am_tx_window.specs.Cut.{clip}
use Rattle.rlc_am_tx_window.proofs.cut.clip_count.Given as goal

abbrev pub invariant-loop-len : goal.invariant-loop-len
invariant-loop-len l = record {
  rest : l.count + length (clip l.start l.end (drop l.len-index l.lens)) ≡ length (clip l.from l.to l.lens);
  few : l.count ≤ l.len-index;
}
