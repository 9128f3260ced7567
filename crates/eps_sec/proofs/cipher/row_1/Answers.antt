use Rattle.std.proofs.Common.{◌/◌}
use Rattle.std.proofs.lemmas.Nat.{and_mask}
use Rattle.eps_sec.specs.Words.{column}
use Rattle.eps_sec.proofs.cipher.row_1.Goals as goal

pub returns : goal.returns
unfolding column
returns c = and_mask (c.args.word / 65536) 8
