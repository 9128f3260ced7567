use Rattle.pdcp_rx.proofs.BitmapLemmas.{written}
use Rattle.pdcp_rx.proofs.laws.reports_what_is_held.Goals as goal

pub returns : goal.returns
returns c = written
