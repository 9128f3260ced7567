use Rattle.std.proofs.Common.{sym, ap, ◌∙◌}
use Rattle.rlc_pdu.specs.Runs.{ends_below}
use Rattle.rlc_pdu.proofs.RunSteps.{ends_below_last}
use Rattle.rlc_pdu.proofs.intervals.ends_below.Goals as goal

pub returns-in-Some : goal.returns-in-Some
returns-in-Some c = c.ends_before.ensures
    ∙ sym (ap (λ rs. ends_below rs c.args.from) c.in-Some.ensures.cases.0
    ∙ ends_below_last c.in-Some.field-0-1.now c.in-Some.last.now c.args.from)
