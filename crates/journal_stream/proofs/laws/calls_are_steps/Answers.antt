use Rattle.journal_stream.proofs.SentTold.{steps}
use Rattle.journal_stream.proofs.laws.calls_are_steps.Goals as goal

pub returns : goal.returns
returns c = steps
