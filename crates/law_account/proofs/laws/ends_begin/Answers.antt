use Rattle.law_account.proofs.EndsTold.{ends_begin}
use Rattle.law_account.proofs.laws.ends_begin.Goals as goal

pub returns : goal.returns
returns c = ends_begin
