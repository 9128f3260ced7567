use Rattle.law_run.proofs.TwoEnds.Links.{links_are_ordered}
use Rattle.law_run.proofs.two_ends.links_are_ordered.Goals as goal

pub returns : goal.returns
returns c = links_are_ordered
