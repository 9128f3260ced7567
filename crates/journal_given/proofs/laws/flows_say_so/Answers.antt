use Rattle.journal_given.proofs.Saying.{flows_say_so}
use Rattle.journal_given.proofs.laws.flows_say_so.Goals as goal

pub returns : goal.returns
returns c = flows_say_so
