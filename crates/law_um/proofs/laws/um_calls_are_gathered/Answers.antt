use Rattle.law_um.proofs.UmGathered.{um_events_are_gathered, other_events_stay_away, um_told_is_gathered}
use Rattle.law_um.proofs.UmGatheredBearers.{um_bearers_tell_own}
use Rattle.law_um.proofs.UmGatheredPdus.{um_calls_are_gathered, um_pdus_are_gathered, um_takes_are_gathered}
use Rattle.law_um.proofs.UmGatheredPdus.{um_arrivals_are_gathered}
use Rattle.law_um.proofs.laws.um_calls_are_gathered.Goals as goal

pub returns-clause-events : goal.returns-clause-events
returns-clause-events c = um_events_are_gathered

pub returns-clause-others : goal.returns-clause-others
returns-clause-others c = other_events_stay_away

pub returns-clause-told : goal.returns-clause-told
returns-clause-told c = um_told_is_gathered

pub returns-clause-own : goal.returns-clause-own
returns-clause-own c = um_bearers_tell_own

pub returns-clause-calls : goal.returns-clause-calls
returns-clause-calls c = um_calls_are_gathered

pub returns-clause-writes : goal.returns-clause-writes
returns-clause-writes c = um_pdus_are_gathered

pub returns-clause-takes : goal.returns-clause-takes
returns-clause-takes c = um_takes_are_gathered

pub returns-clause-comes : goal.returns-clause-comes
returns-clause-comes c = um_arrivals_are_gathered
