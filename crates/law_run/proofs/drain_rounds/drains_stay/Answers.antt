use Rattle.law_run.proofs.DrainRounds.Staying.{drains_stay, channels_stay}
use Rattle.law_run.proofs.drain_rounds.drains_stay.Goals as goal

pub returns-clause-links : goal.returns-clause-links
returns-clause-links c = drains_stay

pub returns-clause-channels : goal.returns-clause-channels
returns-clause-channels c = channels_stay
