use Rattle.law_given.proofs.Confirming.{all_confirmed, statuses_confirm}
use Rattle.law_given.proofs.ConfirmingOnly.{only_statuses_confirm, confirmed_stays}
use Rattle.law_given.proofs.laws.confirms_as_told.Goals as goal

pub returns-clause-all : goal.returns-clause-all
returns-clause-all c = all_confirmed

pub returns-clause-news : goal.returns-clause-news
returns-clause-news c = statuses_confirm

pub returns-clause-only : goal.returns-clause-only
returns-clause-only c = only_statuses_confirm

pub returns-clause-stays : goal.returns-clause-stays
returns-clause-stays c = confirmed_stays
