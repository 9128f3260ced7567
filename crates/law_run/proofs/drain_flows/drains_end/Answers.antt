use Rattle.law_run.proofs.DrainDone.{links_may_drain, links_have_counts, none_spends}
use Rattle.law_run.proofs.drain_flows.drains_end.Goals as goal

pub returns-clause-links : goal.returns-clause-links
returns-clause-links c = links_may_drain

pub returns-clause-counts : goal.returns-clause-counts
returns-clause-counts c = links_have_counts

pub returns-clause-lines : goal.returns-clause-lines
returns-clause-lines c = none_spends
