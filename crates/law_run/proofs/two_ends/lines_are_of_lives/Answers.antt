use Rattle.law_run.proofs.two_ends.lines_are_of_lives.Goals as goal
use Rattle.law_run.proofs.TwoEnds.Advancing.{steps_stay, handovers_move}

pub returns-clause-steps : goal.returns-clause-steps
returns-clause-steps c = steps_stay

pub returns-clause-handovers : goal.returns-clause-handovers
returns-clause-handovers c = handovers_move
