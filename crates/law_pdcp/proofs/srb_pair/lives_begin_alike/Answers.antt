use Rattle.law_pdcp.proofs.srb_pair.lives_begin_alike.Goals as goal
use Rattle.law_pdcp.proofs.SrbPair.Beginning.{first_life, next_life}

pub returns-clause-first : goal.returns-clause-first
returns-clause-first c = first_life

pub returns-clause-next : goal.returns-clause-next
returns-clause-next c = next_life
