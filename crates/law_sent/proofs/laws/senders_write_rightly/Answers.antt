use Rattle.law_sent.proofs.Senders.{offers_go_on, writes_rightly}
use Rattle.law_sent.proofs.laws.senders_write_rightly.Goals as goal

pub returns-clause-offers : goal.returns-clause-offers
returns-clause-offers c = offers_go_on

pub returns-clause-writes : goal.returns-clause-writes
returns-clause-writes c = writes_rightly
