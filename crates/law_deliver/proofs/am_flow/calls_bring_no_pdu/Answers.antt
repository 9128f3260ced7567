use Rattle.law_deliver.proofs.AmFlow.NoPdus.{calls_bring_none, turns_tell_none}
use Rattle.law_deliver.proofs.am_flow.calls_bring_no_pdu.Goals as goal

pub returns-clause-calls : goal.returns-clause-calls
returns-clause-calls c = calls_bring_none

pub returns-clause-turns : goal.returns-clause-turns
returns-clause-turns c = turns_tell_none
