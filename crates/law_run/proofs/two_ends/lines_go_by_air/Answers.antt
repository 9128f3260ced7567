use Rattle.law_run.proofs.TwoEnds.Advancing.{steps_go}
use Rattle.law_run.proofs.two_ends.lines_go_by_air.Goals as goal

pub returns : goal.returns
returns c = steps_go
