use Rattle.std.proofs.Common.{ap, sym, ◌∙◌}
use Rattle.std.proofs.lemmas.Result.{err_from_is_err_and}
use Rattle.journal_check.specs.Checked.{CheckerState}
use Rattle.journal_check.specs.States.{is_running}
use Rattle.journal_check.proofs.Feeding.{end_stops, end_judged}
use Rattle.journal_check.proofs.checker.Checker.end.Goals as goal

pub returns-in_err-judge_group-clause-end : goal.returns-in_err-judge_group-clause-end
returns-in_err-judge_group-clause-end c = λ r h.
    let p = err_from_is_err_and c.from_residual.result c.from_residual.ensures.1 in
    rw (p.1, p.2)
    (end_stops r c.args.self.now c.in_err-judge_group.field-0.0 h
    (ap (λ (s : CheckerState). is_running s.order) (sym c.self.view_is) ∙ sym c.is_running.ensures
    ∙ c.if-not-is_running.false) c.in_err-judge_group.ensures.finds)

pub returns-clause-end : goal.returns-clause-end
returns-clause-end c = λ r h.
    end_judged r c.args.self.now c.self-2.inside.lines h c.in_ok-judge_group.ensures.finds
    (ap (λ (s : CheckerState). s.lines) (c.self-2.view_is ∙ c.in_ok-judge_group.ensures.ends))
