use Rattle.law_sent.proofs.UmSenders.{begins_so, offers_go_on, writes_rightly}
use Rattle.law_sent.proofs.laws.um_senders_write_rightly.Goals as goal

pub returns-clause-begins : goal.returns-clause-begins
returns-clause-begins c = begins_so

pub returns-clause-offers : goal.returns-clause-offers
returns-clause-offers c = offers_go_on

pub returns-clause-writes : goal.returns-clause-writes
returns-clause-writes c = writes_rightly
