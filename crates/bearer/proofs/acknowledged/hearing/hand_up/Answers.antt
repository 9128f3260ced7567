use Rattle.std.proofs.Common.{◌≡◌, ◌∙◌, ℕ, List, drop, ap, sym}
use Rattle.rlc_am_rx.specs.Entity.{Entity}
use Rattle.rlc_am_rx.specs.Machine.{taken}
use Rattle.rlc_am_rx.specs.State.{State as Receiver}
use Rattle.bearer.specs.Acknowledged.State.{work}
use Rattle.bearer.specs.Acknowledged.Hearing.{hears_all}
use Rattle.bearer.proofs.AmHears.{hears_next}
use Rattle.bearer.proofs.acknowledged.hearing.hand_up.Goals as goal

pub loop-sdu-preserved : goal.loop-sdu-preserved
loop-sdu-preserved c =
    let before = work c.loop-sdu.pdcp c.loop-sdu.tx.state c.loop-sdu.events in
    let after = work c.hear_one.new.pdcp c.hear_one.new.tx.state c.hear_one.new.events in
    let moved : c.up.new.self.state ≡ taken c.loop-sdu.rx.state = ap {A = Entity} (λ e. e.state) c.up.ensures.state in
    record {
      hears' = ap {A = Entity} (λ e. hears_all e.state.out.ready after) c.up.ensures.state
          ∙ hears_next c.loop-sdu.rx.state.out.ready c.in-Some.sdu before after (sym c.in-Some.ensures.value)
          c.in_ok-hear_one.ensures ∙ c.loop-sdu.invariant.hears';
      same = moved
          ∙ ap {A = Receiver} (λ r. record r { out = record r.out { ready = drop 1 c.loop-sdu.rx.state.out.ready } })
          c.loop-sdu.invariant.same
          ∙ ap {A = List (List ℕ)}
          (λ ready. record c.args.rx.now.state { out = record c.args.rx.now.state.out { ready = ready } })
          (sym (ap {A = Receiver} (λ r. r.out.ready) moved));
    }
