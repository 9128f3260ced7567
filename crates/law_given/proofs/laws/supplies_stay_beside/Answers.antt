use Rattle.law_given.proofs.Beside.{own_calls_stay_beside, other_steps_stay_beside}
use Rattle.law_given.proofs.BesideBlocks.{blocks_stay_beside}
use Rattle.law_given.proofs.BesideLives.{first_lives_begin_beside, next_lives_begin_beside}
use Rattle.law_given.proofs.laws.supplies_stay_beside.Goals as goal

pub returns-clause-calls : goal.returns-clause-calls
returns-clause-calls c = own_calls_stay_beside

pub returns-clause-others : goal.returns-clause-others
returns-clause-others c = other_steps_stay_beside

pub returns-clause-blocks : goal.returns-clause-blocks
returns-clause-blocks c = blocks_stay_beside

pub returns-clause-begins : goal.returns-clause-begins
returns-clause-begins c = first_lives_begin_beside

pub returns-clause-lives : goal.returns-clause-lives
returns-clause-lives c = next_lives_begin_beside
