use Rattle.law_um.proofs.UmWriting.{writing_begins, writing_is_reckoned}
use Rattle.law_um.proofs.laws.writing_is_reckoned.Goals as goal

pub returns-clause-begins : goal.returns-clause-begins
returns-clause-begins c = writing_begins

pub returns-clause-pdus : goal.returns-clause-pdus
returns-clause-pdus c = writing_is_reckoned
