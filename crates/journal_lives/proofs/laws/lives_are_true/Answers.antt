use Rattle.journal_lives.proofs.LivesTold.{lives_are_true}
use Rattle.journal_lives.proofs.laws.lives_are_true.Goals as goal

pub returns : goal.returns
returns c = lives_are_true
