-- The COUNTs of a bearer have 32 bits through each call of it, and through lives.
use Rattle.std.proofs.Common.{◌≡◌, None, arith}
use Rattle.bearer.specs.Submitting.{refusal as flow_refusal}
use Rattle.bearer.specs.declared.flow.Flow.{Flow}
use Rattle.bearer.specs.declared.flow.Flow.TheVariants.{Tm, Um, Am}
use Rattle.eps_sec.specs.declared.Keys.{Keys}
use Rattle.law_bearer.specs.AnyBearer.Calls.{Call, Submit, Take, Arrive, Expire, Tick, SetDiscard, after, Restart, goes}
use Rattle.law_node.proofs.CountsFit.{CountsFit, counts_pass}
use Rattle.law_node.proofs.Pdcp.{OfPdcp, arrives, expires, ticks_of, submits_of, discards_of, takes_of, moves_of}
use Rattle.law_run.specs.DrainBudget.{CountsEnd}

-- an SDU that is submitted isn't refused
abbrev pub IsAcceptedBy : Flow → Call → Type 0
IsAcceptedBy f (Submit sdu) = flow_refusal f sdu ≡ None
IsAcceptedBy f (Take share held) = Unit {0}
IsAcceptedBy f (Arrive pdu) = Unit {0}
IsAcceptedBy f (Expire clock) = Unit {0}
IsAcceptedBy f Tick = Unit {0}
IsAcceptedBy f (SetDiscard ttis) = Unit {0}

pub call_counts : (f : Flow) (c : Call) → IsAcceptedBy f c → OfPdcp CountsFit f → OfPdcp CountsFit (after f c)
call_counts f (Submit sdu) g h = submits_of CountsFit counts_pass f sdu g h
call_counts f (Take share held) g h = takes_of CountsFit counts_pass f share held h
call_counts f (Arrive pdu) g h = arrives CountsFit counts_pass f pdu h
call_counts f (Expire clock) g h = expires CountsFit counts_pass f clock h
call_counts f Tick g h = ticks_of CountsFit counts_pass f h
call_counts f (SetDiscard ttis) g h = discards_of CountsFit counts_pass f ttis h

pub restart_counts : (f : Flow) (keys : Keys) → OfPdcp CountsFit f → OfPdcp CountsFit (goes f (Restart keys))
restart_counts f keys h = moves_of CountsFit counts_pass f keys h

pub counts_end : (f : Flow) → OfPdcp CountsFit f → CountsEnd f
counts_end (Tm b) h = tt
counts_end (Um b) h = omega (arith, h)
counts_end (Am b) h = omega (arith, h)
