use Rattle.law_sent.proofs.Flows.{flows_go_on}
use Rattle.law_sent.proofs.FlowsBlocks.{blocks_are_right_on_all}
use Rattle.law_sent.proofs.FlowsNamed.{sends_what_is_passed}
use Rattle.law_sent.proofs.laws.flows_go_on.Goals as goal

pub returns-clause-flows : goal.returns-clause-flows
returns-clause-flows c = flows_go_on

pub returns-clause-blocks : goal.returns-clause-blocks
returns-clause-blocks c = blocks_are_right_on_all

pub returns-clause-passes : goal.returns-clause-passes
returns-clause-passes c = sends_what_is_passed
