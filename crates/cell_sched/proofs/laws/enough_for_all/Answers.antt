use Rattle.cell_sched.proofs.Sharing.{each_gets_its_wish}
use Rattle.cell_sched.proofs.laws.enough_for_all.Goals as goal

pub returns : goal.returns
returns c = each_gets_its_wish
