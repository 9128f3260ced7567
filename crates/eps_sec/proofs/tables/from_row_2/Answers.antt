use Rattle.std.proofs.Common.{arith}
use Rattle.eps_sec.proofs.TableLemmas.{row_2_is}
use Rattle.eps_sec.proofs.tables.from_row_2.Goals as goal

pub returns : goal.returns
returns c = row_2_is c.args.octet (omega arith)
