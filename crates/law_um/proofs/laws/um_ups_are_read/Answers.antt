use Rattle.law_um.proofs.UmReadingLives.{um_readers_begin, um_calls_are_read, um_lives_are_read, um_ends_are_read}
use Rattle.law_um.proofs.laws.um_ups_are_read.Goals as goal

pub returns-clause-begins : goal.returns-clause-begins
returns-clause-begins c = um_readers_begin

pub returns-clause-calls : goal.returns-clause-calls
returns-clause-calls c = um_calls_are_read

pub returns-clause-lives : goal.returns-clause-lives
returns-clause-lives c = um_lives_are_read

pub returns-clause-ends : goal.returns-clause-ends
returns-clause-ends c = um_ends_are_read
