use Rattle.test_loop.proofs.HistoryLemmas.{returns_once}
use Rattle.test_loop.proofs.laws.kept_sdus_return_once.Goals as goal

pub returns : goal.returns
returns c = returns_once
