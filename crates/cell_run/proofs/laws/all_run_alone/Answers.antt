use Rattle.cell_run.proofs.AllAlone.{all-alone}
use Rattle.cell_run.proofs.Scripted.{all-have}
use Rattle.cell_run.proofs.Written.{all-written}
use Rattle.cell_run.proofs.laws.all_run_alone.Goals as goal

pub returns-clause-alone : goal.returns-clause-alone
returns-clause-alone c = all-alone

pub returns-clause-scripts : goal.returns-clause-scripts
returns-clause-scripts c = all-have

pub returns-clause-written : goal.returns-clause-written
returns-clause-written c = all-written
