use Rattle.law_sound.proofs.NamedLogs.{records_name, events_name, ends_send_as_they_build, steps_leave_none_named}
use Rattle.law_sound.proofs.laws.records_name_the_log.Goals as goal

pub returns-clause-records : goal.returns-clause-records
returns-clause-records c = records_name

pub returns-clause-events : goal.returns-clause-events
returns-clause-events c = events_name

pub returns-clause-calls : goal.returns-clause-calls
returns-clause-calls c = ends_send_as_they_build

pub returns-clause-steps : goal.returns-clause-steps
returns-clause-steps c = steps_leave_none_named
