use Rattle.law_sound.proofs.Hearings.{bearers_hear, bearers_hear_data, ends_report_truly}
use Rattle.law_sound.proofs.laws.bearers_hear.Goals as goal

pub returns-clause-calls : goal.returns-clause-calls
returns-clause-calls c = bearers_hear

pub returns-clause-data_pdus : goal.returns-clause-data_pdus
returns-clause-data_pdus c = bearers_hear_data

pub returns-clause-statuses : goal.returns-clause-statuses
returns-clause-statuses c = ends_report_truly
