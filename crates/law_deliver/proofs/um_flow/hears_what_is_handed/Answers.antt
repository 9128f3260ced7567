use Rattle.law_deliver.proofs.UmFlow.Handing.{hears_what_is_handed, hears_the_rest_at_the_end}
use Rattle.law_deliver.proofs.um_flow.hears_what_is_handed.Goals as goal

pub returns-clause-calls : goal.returns-clause-calls
returns-clause-calls c = hears_what_is_handed

pub returns-clause-end : goal.returns-clause-end
returns-clause-end c = hears_the_rest_at_the_end
