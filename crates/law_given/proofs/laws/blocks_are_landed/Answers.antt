use Rattle.law_given.proofs.Landing.{blocks_are_landed}
use Rattle.law_given.proofs.LandingTold.{news_are_as_told, brings_as_told}
use Rattle.law_given.proofs.laws.blocks_are_landed.Goals as goal

pub returns-clause-landed : goal.returns-clause-landed
returns-clause-landed c = blocks_are_landed

pub returns-clause-news : goal.returns-clause-news
returns-clause-news c = news_are_as_told

pub returns-clause-brings : goal.returns-clause-brings
returns-clause-brings c = brings_as_told
