use Rattle.law_pdcp.proofs.AmPair.Telling.{begins_telling}
use Rattle.law_pdcp.proofs.am_pair.lives_begin_with_a_report.Goals as goal

pub returns : goal.returns
returns c = begins_telling
