use Rattle.std.proofs.Common.{◌≡◌, ◌≤◌, sym, ap, ◌∙◌, subst, arith}
use Rattle.std.proofs.lemmas.Bool.{le-leb}
use Rattle.journal_account.specs.FlowArrivals.{next_in}
use Rattle.journal_account.specs.FlowEvents.{StatusHeard}
use Rattle.journal_lives.specs.FlowLives.{FlowLives}
use Rattle.journal_lives.specs.LifeEvents.{InLife}
use Rattle.journal_flows.specs.FlowKept.{IsOfHistory}
use Rattle.journal_flows.proofs.Lives.{agrees, goes_on}
use Rattle.journal_flows.proofs.flow.Flow.with_status.Goals as goal

pub hear-requires : goal.hear-requires
hear-requires c =
    let next : next_in c.self.inside.lives.account.arrivals ≡ c.next.result =
    ap (λ (l : FlowLives). next_in l.account.arrivals) c.self.view_is ∙ sym c.next.ensures in
    omega (arith, agrees c.self.inside.lives c.self.invariant, next, c.if-ack-next.false)

pub invariant_of-result : goal.invariant_of-result
invariant_of-result c =
    let next : next_in c.self.inside.lives.account.arrivals ≡ c.next.result =
    ap (λ (l : FlowLives). next_in l.account.arrivals) c.self.view_is ∙ sym c.next.ensures in
    let low : c.args.ack ≤ next_in c.self.inside.lives.account.arrivals = omega (arith, next, c.if-ack-next.false) in
    subst IsOfHistory (sym c.in_ok-hear.ensures)
    (goes_on (InLife (StatusHeard c.args.ack c.args.entries.now)) c.self.inside.lives c.self.invariant
    (le-leb c.args.ack (next_in c.self.inside.lives.account.arrivals) low))
