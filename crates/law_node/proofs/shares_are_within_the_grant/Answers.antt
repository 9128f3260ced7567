use Rattle.law_node.proofs.Sharing.{shares_are_within_the_grant}
use Rattle.law_node.proofs.shares_are_within_the_grant.Goals as goal

pub returns : goal.returns
returns c = shares_are_within_the_grant
