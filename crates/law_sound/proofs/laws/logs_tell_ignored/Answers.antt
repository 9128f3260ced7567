use Rattle.law_sound.proofs.IgnoredLogs.{logs_tell_ignored, no_block_ignored}
use Rattle.law_sound.proofs.laws.logs_tell_ignored.Goals as goal

pub returns-clause-logs : goal.returns-clause-logs
returns-clause-logs c = logs_tell_ignored

pub returns-clause-no_block : goal.returns-clause-no_block
returns-clause-no_block c = no_block_ignored
