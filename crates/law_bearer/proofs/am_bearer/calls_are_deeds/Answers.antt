use Rattle.law_bearer.proofs.AmBearer.Calls.{calls_are_deeds, signalling_calls_are_deeds}
use Rattle.law_bearer.proofs.am_bearer.calls_are_deeds.Goals as goal

pub returns-clause-of_data : goal.returns-clause-of_data
returns-clause-of_data c = calls_are_deeds

pub returns-clause-of_signalling : goal.returns-clause-of_signalling
returns-clause-of_signalling c = signalling_calls_are_deeds
