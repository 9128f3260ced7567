use Rattle.std.proofs.Common.{arith}
use Rattle.eps_sec.specs.Words.{column}
use Rattle.eps_sec.proofs.cipher.row_0.Goals as goal

pub returns : goal.returns
unfolding column
returns c = omega arith
