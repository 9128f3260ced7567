use Rattle.law_run.proofs.DrainTtis.Bringing.{heard_at_once}
use Rattle.law_run.proofs.drain_ttis.blocks_are_heard_at_once.Goals as goal

pub returns : goal.returns
returns c = heard_at_once
