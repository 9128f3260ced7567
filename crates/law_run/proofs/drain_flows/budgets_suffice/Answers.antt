use Rattle.law_run.proofs.DrainBudget.{measures_are_left, budgets_suffice, lines_have_budgets}
use Rattle.law_run.proofs.drain_flows.budgets_suffice.Goals as goal

pub returns-clause-left : goal.returns-clause-left
returns-clause-left c = measures_are_left

pub returns-clause-budget : goal.returns-clause-budget
returns-clause-budget c = budgets_suffice

pub returns-clause-lines : goal.returns-clause-lines
returns-clause-lines c = lines_have_budgets
