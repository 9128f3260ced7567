use Rattle.law_sound.proofs.GroupRecords.{runs_send_rightly}
use Rattle.law_sound.proofs.laws.runs_send_rightly.Goals as goal

pub returns : goal.returns
returns c = runs_send_rightly
