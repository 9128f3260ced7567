use Rattle.law_rlc.proofs.AmPair.Laws.{only-data-arrives}
use Rattle.law_rlc.proofs.am_pair.only_data_arrives.Goals as goal

pub returns : goal.returns
returns c = only-data-arrives
