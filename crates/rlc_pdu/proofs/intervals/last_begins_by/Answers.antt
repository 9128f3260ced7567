use Rattle.std.proofs.Common.{sym, ap, ◌∙◌}
use Rattle.rlc_pdu.specs.Runs.{last_begins_by}
use Rattle.rlc_pdu.proofs.RunSteps.{begins_by_last}
use Rattle.rlc_pdu.proofs.intervals.last_begins_by.Goals as goal

pub returns-in-Some : goal.returns-in-Some
returns-in-Some c = c.begins_by.ensures
    ∙ sym (ap (λ rs. last_begins_by rs c.args.from) c.in-Some.ensures.cases.0
    ∙ begins_by_last c.in-Some.field-0-1.now c.in-Some.last.now c.args.from)
