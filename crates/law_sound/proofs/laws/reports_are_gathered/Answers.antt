use Rattle.law_sound.proofs.Reports.{reports_gathered}
use Rattle.law_sound.proofs.laws.reports_are_gathered.Goals as goal

pub returns : goal.returns
returns c = reports_gathered
