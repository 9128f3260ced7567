use Rattle.law_node.proofs.Noting.{holds_no_old}
use Rattle.law_node.proofs.holds_no_old_number.Goals as goal

pub returns : goal.returns
returns c = holds_no_old
