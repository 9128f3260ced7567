use Rattle.law_um.proofs.UmLivedLaws.{pdus_come_in_time}
use Rattle.law_um.proofs.laws.pdus_come_in_time.Goals as goal

pub returns : goal.returns
returns c = pdus_come_in_time
