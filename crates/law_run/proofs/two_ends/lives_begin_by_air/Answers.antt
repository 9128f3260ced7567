use Rattle.law_run.proofs.TwoEnds.Lives.{first_rests, calls_rest, submissions_rest, channels_begin}
use Rattle.law_run.proofs.two_ends.lives_begin_by_air.Goals as goal

pub returns-clause-first : goal.returns-clause-first
returns-clause-first c = first_rests

pub returns-clause-calls : goal.returns-clause-calls
returns-clause-calls c = calls_rest

pub returns-clause-submissions : goal.returns-clause-submissions
returns-clause-submissions c = submissions_rest

pub returns-clause-channels : goal.returns-clause-channels
returns-clause-channels c = channels_begin
