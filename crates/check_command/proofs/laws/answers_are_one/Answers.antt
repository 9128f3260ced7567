use Rattle.check_command.proofs.Final.{final}
use Rattle.check_command.proofs.Refusing.{one-answer}
use Rattle.check_command.proofs.laws.answers_are_one.Goals as goal

pub returns : goal.returns
returns c = record { one = one-answer; stays = final }
