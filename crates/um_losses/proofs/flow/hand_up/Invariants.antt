use Rattle.std.proofs.Common.{◌≡◌, length}
use Rattle.um_losses.specs.Gaps.{all_counted}
use Rattle.um_losses.proofs.flow.hand_up.Given as goal

abbrev pub invariant-loop-sdu : goal.invariant-loop-sdu
invariant-loop-sdu l = record {
  counts : all_counted l.receiver.state.joined.ready l.gaps ≡ all_counted l.fn.receiver.state.joined.ready l.fn.gaps;
  same : l.receiver.state ≡ record l.fn.receiver.state {
    joined =
        record l.fn.receiver.state.joined { ready = l.receiver.state.joined.ready };
  };
}

abbrev pub decreases-loop-sdu : goal.decreases-loop-sdu
decreases-loop-sdu l = length l.receiver.state.joined.ready
