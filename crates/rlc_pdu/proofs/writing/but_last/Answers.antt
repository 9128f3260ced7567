use Rattle.std.proofs.Common.{sym, ap, ◌∙◌}
use Rattle.rlc_pdu.specs.Pdus.{but_last}
use Rattle.rlc_pdu.proofs.UnitsWritten.{but_last_of}
use Rattle.rlc_pdu.proofs.writing.but_last.Goals as goal

pub returns-in-Some : goal.returns-in-Some
returns-in-Some c = sym (ap but_last c.in-Some.ensures.cases.0 ∙ but_last_of _ _)
