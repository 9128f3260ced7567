use Rattle.law_run.proofs.DrainLinks.{links_are_measured, links_never_rise}
use Rattle.law_run.proofs.drain_flows.links_never_rise.Goals as goal

pub returns-clause-measured : goal.returns-clause-measured
returns-clause-measured c = links_are_measured

pub returns-clause-rounds : goal.returns-clause-rounds
returns-clause-rounds c = links_never_rise
