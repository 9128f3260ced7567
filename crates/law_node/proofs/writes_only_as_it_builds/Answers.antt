use Rattle.law_node.proofs.Silences.{writes_nothing}
use Rattle.law_node.proofs.writes_only_as_it_builds.Goals as goal

pub returns : goal.returns
returns c = writes_nothing
