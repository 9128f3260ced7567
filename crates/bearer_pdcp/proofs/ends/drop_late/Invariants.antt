use Rattle.std.proofs.Common.{◌≡◌, ◌++◌, length}
use Rattle.bearer_pdcp.specs.Discarding.{without_late, late_told}
use Rattle.bearer_pdcp.specs.Lives.{OwesShort}
use Rattle.bearer_pdcp.proofs.ends.drop_late.Given as goal

abbrev pub invariant-loop-len : goal.invariant-loop-len
invariant-loop-len l = record {
  told : l.events ++ late_told l.lcid l.tx.state.waiting l.tx.state
      ≡ l.fn.events ++ late_told l.lcid l.fn.tx.state.waiting l.fn.tx.state;
  left : without_late l.tx.state.waiting l.tx.state ≡ without_late l.fn.tx.state.waiting l.fn.tx.state;
  owes : OwesShort l.tx;
  same : l.tx ≡ record l.fn.tx { state = l.tx.state };
}

abbrev pub decreases-loop-len : goal.decreases-loop-len
decreases-loop-len l = length l.tx.state.waiting
