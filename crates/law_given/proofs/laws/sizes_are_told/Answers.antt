use Rattle.law_given.proofs.ConfirmingRuns.{sizes_begin, sizes_go_on}
use Rattle.law_given.proofs.ConfirmingFlows.{flows_have_sizes}
use Rattle.law_given.proofs.laws.sizes_are_told.Goals as goal

pub returns-clause-begin : goal.returns-clause-begin
returns-clause-begin c = sizes_begin

pub returns-clause-go_on : goal.returns-clause-go_on
returns-clause-go_on c = sizes_go_on

pub returns-clause-flows : goal.returns-clause-flows
returns-clause-flows c = flows_have_sizes
