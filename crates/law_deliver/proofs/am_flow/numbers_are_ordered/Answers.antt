use Rattle.law_deliver.proofs.AmFlow.Links.{numbers_are_ordered}
use Rattle.law_deliver.proofs.am_flow.numbers_are_ordered.Goals as goal

pub returns : goal.returns
returns c = numbers_are_ordered
