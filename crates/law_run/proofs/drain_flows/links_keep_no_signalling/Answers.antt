use Rattle.law_run.proofs.DrainEnds.{links_keep_no_signalling}
use Rattle.law_run.proofs.drain_flows.links_keep_no_signalling.Goals as goal

pub returns : goal.returns
returns c = links_keep_no_signalling
