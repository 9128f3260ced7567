use Rattle.law_sound.proofs.GroupStatuses.{runs_report_truly}
use Rattle.law_sound.proofs.laws.runs_report_truly.Goals as goal

pub returns : goal.returns
returns c = runs_report_truly
