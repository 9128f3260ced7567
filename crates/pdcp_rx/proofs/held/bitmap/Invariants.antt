use Rattle.std.proofs.Common.{◌≡◌, ◌+◌, ◌*◌, ◌++◌, ◌<◌, ◌^◌}
use Rattle.pdcp_rx.specs.Held.{bitmap}
use Rattle.pdcp_rx.proofs.held.bitmap.Given as goal

abbrev pub invariant-loop-left : goal.invariant-loop-left
invariant-loop-left l = record {
  at : l.at + 8 * l.left ≡ 1 + 8 * l.fn.count;
  few : l.left < 2 ^ 32;
  count : l.fn.count < 2 ^ 32;
  rest : l.out.items ++ bitmap l.held.items l.at l.left
      ≡ bitmap l.held.items 1 l.fn.count;
}

abbrev pub decreases-loop-left : goal.decreases-loop-left
decreases-loop-left l = l.left
