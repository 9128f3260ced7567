use Rattle.std.proofs.Common.{◌≡◌, length}
use Rattle.bearer.specs.Unacknowledged.Hearing.{handing}
use Rattle.bearer.proofs.unacknowledged.running.hand_up.Given as goal

abbrev pub invariant-loop-sdu : goal.invariant-loop-sdu
invariant-loop-sdu l = record {
  hears : handing l.rx.state l.pdcp l.events ≡ handing l.fn.rx.state l.fn.pdcp l.fn.events;
  same : l.rx.state ≡ record l.fn.rx.state { joined = record l.fn.rx.state.joined { ready = l.rx.state.joined.ready } };
}

abbrev pub decreases-loop-sdu : goal.decreases-loop-sdu
decreases-loop-sdu l = length l.rx.state.joined.ready
