use Rattle.law_sound.proofs.JoiningFails.{fails_join, logs_go_on, receivers_fail_none}
use Rattle.law_sound.proofs.laws.fails_join.Goals as goal

pub returns-clause-logs : goal.returns-clause-logs
returns-clause-logs c = logs_go_on

pub returns-clause-receivers : goal.returns-clause-receivers
returns-clause-receivers c = receivers_fail_none

pub returns-clause-stretches : goal.returns-clause-stretches
returns-clause-stretches c = fails_join
