use Rattle.law_run.proofs.DrainRounds.Dealing.{drains_begin, steps_go_so, records_go_so, rounds_are_dealt}
use Rattle.law_run.proofs.drain_rounds.rounds_are_dealt.Goals as goal

pub returns-clause-begins : goal.returns-clause-begins
returns-clause-begins c = drains_begin

pub returns-clause-steps : goal.returns-clause-steps
returns-clause-steps c = steps_go_so

pub returns-clause-records : goal.returns-clause-records
returns-clause-records c = records_go_so

pub returns-clause-rounds : goal.returns-clause-rounds
returns-clause-rounds c = rounds_are_dealt
