use Rattle.law_sound.proofs.LivedFails.{lives_fail_rightly, records_tell_rightly}
use Rattle.law_sound.proofs.LivedLimits.{limits_begin, limits_stay}
use Rattle.law_sound.proofs.MovingFails.{lives_come_new, moves_fail_none}
use Rattle.law_sound.proofs.laws.lives_fail_rightly.Goals as goal

pub returns-clause-ends : goal.returns-clause-ends
returns-clause-ends c = lives_come_new

pub returns-clause-lives : goal.returns-clause-lives
returns-clause-lives c = lives_fail_rightly

pub returns-clause-moves : goal.returns-clause-moves
returns-clause-moves c = moves_fail_none

pub returns-clause-records : goal.returns-clause-records
returns-clause-records c = records_tell_rightly

pub returns-clause-first : goal.returns-clause-first
returns-clause-first c = limits_begin

pub returns-clause-limits : goal.returns-clause-limits
returns-clause-limits c = limits_stay
