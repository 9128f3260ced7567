use Rattle.std.proofs.Common.{◌≡◌, ◌++◌, length}
use Rattle.bearer_pdcp.specs.Hearing.{ups}
use Rattle.bearer_pdcp.proofs.ends.hand_up.Given as goal

abbrev pub invariant-loop-octets : goal.invariant-loop-octets
invariant-loop-octets l = record {
  told : l.events ++ ups l.lcid l.rx.state.ready ≡ l.fn.events ++ ups l.lcid l.fn.rx.state.ready;
  same : l.rx ≡ record l.fn.rx { state = record l.fn.rx.state { ready = l.rx.state.ready } };
}

abbrev pub decreases-loop-octets : goal.decreases-loop-octets
decreases-loop-octets l = length l.rx.state.ready
