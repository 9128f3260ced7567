use Rattle.law_given.proofs.JoinedReports.{pdus_are_given}
use Rattle.law_given.proofs.laws.pdus_are_given.Goals as goal

pub returns : goal.returns
returns c = pdus_are_given
