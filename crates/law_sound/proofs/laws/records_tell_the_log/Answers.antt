use Rattle.law_sound.proofs.LoggedRecords.{records_tell_the_log, own_records_tell}
use Rattle.law_sound.proofs.laws.records_tell_the_log.Goals as goal

pub returns-clause-told : goal.returns-clause-told
returns-clause-told c = records_tell_the_log

pub returns-clause-own : goal.returns-clause-own
returns-clause-own c = own_records_tell
