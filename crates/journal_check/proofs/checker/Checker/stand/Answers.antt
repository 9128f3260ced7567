use Rattle.std.proofs.Common.{ap, subst, sym, ◌∙◌, ◌+◌}
use Rattle.std.proofs.lemmas.Result.{err_from_is_err_and}
use Rattle.journal_check.specs.Checked.{CheckerState}
use Rattle.journal_check.specs.Checks.{TellsRecords}
use Rattle.journal_check.specs.States.{OrderState}
use Rattle.journal_check.proofs.Feeding.{is_told_so, group_stops, place_stops}
use Rattle.journal_check.proofs.checker.Checker.stand.Goals as goal

pub returns-in_err-end_group : goal.returns-in_err-end_group
returns-in_err-end_group c = λ r h.
    let p = err_from_is_err_and c.from_residual.result c.from_residual.ensures.1 in
    rw (p.1, p.2)
    (group_stops r c.args.self.now c.end_group.new.self c.args.one.now c.in_err-end_group.field-0.0 h
    c.in_err-end_group.ensures.finds)

pub returns-in_err-admit : goal.returns-in_err-admit
returns-in_err-admit c = λ r h.
    let p = err_from_is_err_and c.from_residual-in_err-admit.result c.from_residual-in_err-admit.ensures.1 in
    let same = ap (λ (s : CheckerState). s.order) (c.self.view_is ∙ c.in_ok-end_group.ensures.ends) in
    rw (p.1, p.2)
    (place_stops r c.args.self.now _ c.args.one.now c.admit.new.self c.in_err-admit.field-0.0 h
    c.in_ok-end_group.ensures.finds (c.in_err-admit.ensures.next r (subst (TellsRecords r) (sym same) h.order)))

pub returns : goal.returns
returns c = λ r h.
    let same = ap (λ (s : CheckerState). s.order) (c.self.view_is ∙ c.in_ok-end_group.ensures.ends) in
    is_told_so r c.args.self.now _ c.tell.new.self c.args.one.now c.admit.new.self c.tell.result h c.requires.layout
    c.in_ok-end_group.ensures.finds
    (ap (λ (s : CheckerState). record s { order = c.admit.new.self })
    (c.self.view_is ∙ c.in_ok-end_group.ensures.ends))
    (c.in_ok-admit.ensures.next r (subst (TellsRecords r) (sym same) h.order))
    (c.in_ok-admit.ensures.more ∙ ap (λ (o : OrderState). o.count + 1) same) c.tell.ensures.finds
    c.tell.ensures.told
