use Rattle.law_run.proofs.TwoEnds.Links.{links_flow}
use Rattle.law_run.proofs.two_ends.links_are_flows.Goals as goal

pub returns : goal.returns
returns c = links_flow
