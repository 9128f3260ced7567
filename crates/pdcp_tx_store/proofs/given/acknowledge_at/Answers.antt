use Rattle.std.proofs.Common.{◌∙◌, sym, ap}
use Rattle.pdcp_tx_store.specs.Given.{is_own}
use Rattle.pdcp_tx_store.proofs.GivenSteps.{get_at, get_past, open_acked}
use Rattle.pdcp_tx_store.proofs.given.acknowledge_at.Goals as goal

pub returns-in-Some-clause-open : goal.returns-in-Some-clause-open
returns-in-Some-clause-open c =
    let got = get_at _ c.args.at c.in-Some.entry.now c.in-Some.ensures.item.3.0 c.in-Some.ensures.value in
    c.saturating_sub.ensures ∙ rw (c.requires, c.open_length.ensures, c.acknowledge.ensures.state)
    (sym (open_acked _ _ _ got))

pub returns-in-Some-clause-own : goal.returns-in-Some-clause-own
returns-in-Some-clause-own c =
    let got = get_at _ c.args.at c.in-Some.entry.now c.in-Some.ensures.item.3.0 c.in-Some.ensures.value in
    c.acknowledge.ensures.own ∙ ap is_own (sym got)

pub returns-in-None-clause-own : goal.returns-in-None-clause-own
returns-in-None-clause-own c = ap is_own (sym (get_past _ c.args.at c.in-None.ensures.item.3))
