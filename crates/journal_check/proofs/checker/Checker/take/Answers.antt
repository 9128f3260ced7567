use Rattle.std.proofs.Common.{◌<◌, ℕ, ap, subst, ◌∙◌, IfOk}
use Rattle.journal_check.specs.declared.limits.TheConstants.{MOST_RECORDS}
use Rattle.journal_check.specs.Checked.{CheckerState}
use Rattle.journal_check.proofs.Feeding.{text_told}
use Rattle.journal_check.proofs.Layouts.{laid}
use Rattle.journal_check.proofs.checker.Checker.take.Goals as goal
use Rattle.journal_text.specs.Records.{HasText}

pub stand-requires-clause-layout : goal.stand-requires-clause-layout
stand-requires-clause-layout c =
    laid c.args.text.now c.in-Ok.one
    (subst (λ read. IfOk read (HasText c.args.text.now)) c.in-Ok.is c.read_text-read.ensures.«record»)

pub returns-in-Ok : goal.returns-in-Ok
returns-in-Ok c = λ r h.
    text_told r c.args.text.now c.in-Ok.one c.stand.new.self c.stand.result
    (subst (λ (n : ℕ). n < MOST_RECORDS) (ap (λ (s : CheckerState). s.order.count) c.self.view_is ∙ h.order.count)
    c.in_ok-may_read.ensures.room.0)
    (record {
      short = c.in_ok-may_read.ensures.room.1;
      text_is = subst (λ read. IfOk read (HasText c.args.text.now)) c.in-Ok.is c.read_text-read.ensures.«record»;
    }) (c.stand.ensures r h)
