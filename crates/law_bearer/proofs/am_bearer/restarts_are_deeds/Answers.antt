use Rattle.law_bearer.proofs.AmBearer.Lives.{restarts_are_deeds}
use Rattle.law_bearer.proofs.am_bearer.restarts_are_deeds.Goals as goal

pub returns : goal.returns
returns c bits b keys h idle = restarts_are_deeds bits b keys h idle
