use Rattle.std.proofs.Common.{arith}
use Rattle.eps_sec.proofs.TableLemmas.{row_0_is}
use Rattle.eps_sec.proofs.tables.from_row_0.Goals as goal

pub returns : goal.returns
returns c = row_0_is c.args.octet (omega arith)
