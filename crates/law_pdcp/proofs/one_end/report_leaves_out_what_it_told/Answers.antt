use Rattle.law_pdcp.proofs.OneEnd.Told.{leaves_out, leaves_out_told}
use Rattle.law_pdcp.proofs.one_end.report_leaves_out_what_it_told.Goals as goal

pub returns-clause-others : goal.returns-clause-others
returns-clause-others c s calls = leaves_out s calls

pub returns-clause-told : goal.returns-clause-told
returns-clause-told c s fms bitmap calls = leaves_out_told s fms bitmap calls
