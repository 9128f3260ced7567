use Rattle.std.proofs.Common.{arith}
use Rattle.eps_sec.proofs.TableLemmas.{s_box_is}
use Rattle.eps_sec.proofs.tables.sub_byte.Goals as goal

pub returns : goal.returns
returns c = s_box_is c.args.octet (omega arith)
