use Rattle.law_given.proofs.BesideConfirming.{none_confirmed_anew, those_confirmed_anew, news_ascend}
use Rattle.law_given.proofs.laws.confirmed_anew.Goals as goal

pub returns-clause-none : goal.returns-clause-none
returns-clause-none c = none_confirmed_anew

pub returns-clause-those : goal.returns-clause-those
returns-clause-those c = those_confirmed_anew

pub returns-clause-ascend : goal.returns-clause-ascend
returns-clause-ascend c = news_ascend
