use Rattle.journal_given.proofs.Ties.{flows_are_tied}
use Rattle.journal_given.proofs.laws.flows_are_tied.Goals as goal

pub returns : goal.returns
returns c = flows_are_tied
