use Rattle.law_run.proofs.DrainTtis.Clearing.{arrive_at_once}
use Rattle.law_run.proofs.drain_ttis.blocks_arrive_at_once.Goals as goal

pub returns : goal.returns
returns c = arrive_at_once
