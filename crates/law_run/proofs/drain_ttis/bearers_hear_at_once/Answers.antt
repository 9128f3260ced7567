use Rattle.law_run.proofs.DrainTtis.Hearing.{bearers_hear}
use Rattle.law_run.proofs.drain_ttis.bearers_hear_at_once.Goals as goal

pub returns : goal.returns
returns c = bearers_hear
