use Rattle.law_sound.proofs.Writing.{bearers_report_truly, bearers_write_one}
use Rattle.law_sound.proofs.laws.bearers_write.Goals as goal

pub returns-clause-statuses : goal.returns-clause-statuses
returns-clause-statuses c = bearers_report_truly

pub returns-clause-data_pdus : goal.returns-clause-data_pdus
returns-clause-data_pdus c = bearers_write_one
