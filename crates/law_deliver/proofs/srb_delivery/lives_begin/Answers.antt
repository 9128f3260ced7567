use Rattle.law_deliver.proofs.srb_delivery.lives_begin.Goals as goal
use Rattle.law_deliver.proofs.SrbDelivery.Renewing.{first_life_begins, next_life}

pub returns-clause-first : goal.returns-clause-first
returns-clause-first c = first_life_begins

pub returns-clause-next : goal.returns-clause-next
returns-clause-next c = next_life
