use Rattle.std.proofs.Common.{◌≡◌, true, sym, ap, ◌∙◌, subst}
use Rattle.journal_account.specs.FlowArrivals.{next_in}
use Rattle.journal_lives.specs.FlowLives.{FlowLives}
use Rattle.journal_flows.specs.Possible.{is_possible}
use Rattle.journal_flows.specs.FlowKept.{IsOfHistory, event_of}
use Rattle.journal_flows.proofs.Lives.{agrees, goes_on}
use Rattle.journal_flows.proofs.flow.Flow.with.Goals as goal

pub change-requires-clause-agree : goal.change-requires-clause-agree
change-requires-clause-agree c = agrees c.self.inside.lives c.self.invariant

pub invariant_of-result : goal.invariant_of-result
invariant_of-result c =
    let can : is_possible (next_in c.self.inside.lives.account.arrivals) (event_of c.args.what) ≡ true =
    ap (λ (l : FlowLives). is_possible (next_in l.account.arrivals) (event_of c.args.what)) c.self.view_is
    ∙ sym (ap (λ (n : _). is_possible n (event_of c.args.what)) c.next.ensures) ∙ sym c.is_possible.ensures
    ∙ c.if-not-is_possible.false in
    subst IsOfHistory (sym c.in_ok-change.ensures)
    (goes_on (event_of c.args.what) c.self.inside.lives c.self.invariant can)
