use Rattle.law_sound.proofs.LivedHistories.{ends_go_on, lives_begin_beside, moves_begin_beside, lives_go_on_beside}
use Rattle.law_sound.proofs.LivedHistories.{lives_go_over, lives_write_truly}
use Rattle.law_sound.proofs.laws.lives_go_on.Goals as goal

pub returns-clause-steps : goal.returns-clause-steps
returns-clause-steps c = ends_go_on

pub returns-clause-begins : goal.returns-clause-begins
returns-clause-begins c = lives_begin_beside

pub returns-clause-moves : goal.returns-clause-moves
returns-clause-moves c = moves_begin_beside

pub returns-clause-lives : goal.returns-clause-lives
returns-clause-lives c = lives_go_on_beside

pub returns-clause-over : goal.returns-clause-over
returns-clause-over c = lives_go_over

pub returns-clause-writes : goal.returns-clause-writes
returns-clause-writes c = lives_write_truly
