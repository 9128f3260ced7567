use Rattle.law_run.proofs.Ranges.{lines-in-range}
use Rattle.law_run.proofs.laws.lines_are_in_range.Goals as goal

pub returns : goal.returns
returns c = lines-in-range
