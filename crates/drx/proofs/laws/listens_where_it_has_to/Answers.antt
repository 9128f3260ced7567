use Rattle.drx.proofs.HistoryLemmas.{listens_right}
use Rattle.drx.proofs.laws.listens_where_it_has_to.Goals as goal

pub returns : goal.returns
returns c = listens_right
