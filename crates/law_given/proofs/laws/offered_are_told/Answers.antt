use Rattle.law_given.proofs.SupplyPdus.{offered_are_told}
use Rattle.law_given.proofs.SupplyPdusKept.{kept_were_submitted}
use Rattle.law_given.proofs.laws.offered_are_told.Goals as goal

pub returns-clause-pdus : goal.returns-clause-pdus
returns-clause-pdus c = offered_are_told

pub returns-clause-kept : goal.returns-clause-kept
returns-clause-kept c = kept_were_submitted
