use Rattle.law_given.proofs.SupplySaid.{said_is_read}
use Rattle.law_given.proofs.laws.said_is_read.Goals as goal

pub returns : goal.returns
returns c = said_is_read
