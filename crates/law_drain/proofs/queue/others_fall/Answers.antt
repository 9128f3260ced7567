use Rattle.law_drain.proofs.Others.{others_never_rise, others_fall}
use Rattle.law_drain.proofs.queue.others_fall.Goals as goal

pub returns-clause-rest : goal.returns-clause-rest
returns-clause-rest c = others_never_rise

pub returns-clause-falls : goal.returns-clause-falls
returns-clause-falls c = others_fall
