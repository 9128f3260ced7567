use Rattle.std.proofs.Common.{sym, subst}
use Rattle.journal_flows.specs.FlowKept.{IsOfHistory}
use Rattle.journal_flows.proofs.Lives.{outset}
use Rattle.journal_flows.proofs.flow.Flow.new.Goals as goal

pub invariant_of-result : goal.invariant_of-result
invariant_of-result c = subst IsOfHistory (sym c.new.ensures) (outset c.args.most c.args.first)
