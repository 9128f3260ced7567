use Rattle.std.proofs.Common.{◌≡◌, length}
use Rattle.bearer.specs.Acknowledged.State.{work}
use Rattle.bearer.specs.Acknowledged.Hearing.{hears_all}
use Rattle.bearer.proofs.acknowledged.hearing.hand_up.Given as goal

abbrev pub invariant-loop-sdu : goal.invariant-loop-sdu
invariant-loop-sdu l = record {
  hears' : hears_all l.rx.state.out.ready (work l.pdcp l.tx.state l.events)
      ≡ hears_all l.fn.rx.state.out.ready (work l.fn.pdcp l.fn.tx.state l.fn.events);
  same : l.rx.state ≡ record l.fn.rx.state { out = record l.fn.rx.state.out { ready = l.rx.state.out.ready } };
}

abbrev pub decreases-loop-sdu : goal.decreases-loop-sdu
decreases-loop-sdu l = length l.rx.state.out.ready
