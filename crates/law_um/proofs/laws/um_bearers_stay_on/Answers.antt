use Rattle.law_um.proofs.UmGatheredBearers.{um_bearers_come_on, um_bearers_go_on, um_bearers_live_on}
use Rattle.law_um.proofs.laws.um_bearers_stay_on.Goals as goal

pub returns-clause-comes : goal.returns-clause-comes
returns-clause-comes c = um_bearers_come_on

pub returns-clause-goes : goal.returns-clause-goes
returns-clause-goes c = um_bearers_go_on

pub returns-clause-lives : goal.returns-clause-lives
returns-clause-lives c = um_bearers_live_on
