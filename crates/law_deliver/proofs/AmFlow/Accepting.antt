-- No call of an end's bearer that its acts make is an SDU that the end would refuse.
use Rattle.std.proofs.Common.{◌≡◌, ◌⊎◌, inl, inr, ℕ, ◌==◌, Bool, true, false, Option, Some, None, List, [], ◌∷◌, map}
use Rattle.std.proofs.Common.{slice_get, refl, ap, sym, ◌∙◌}
use Rattle.std.specs.List.{AllByRecursion}
use Rattle.bearer.specs.declared.flow.Flow.{Flow}
use Rattle.bearer.specs.Submitting.{refusal as flow_refusal}
use Rattle.law_bearer.specs.AnyBearer.Calls.{Call as BearerCall, Submit as Submits, Take as Takes, Arrive as Arrives}
use Rattle.law_bearer.specs.AnyBearer.Calls.{Expire as Expires, Tick as Ticks, SetDiscard as SetsDiscard}
use Rattle.harq.specs.declared.sender.Visit.{Visit}
use Rattle.harq.specs.declared.sender.Visit.TheVariants.{New, Resend, Silent}
use Rattle.l2_bits.specs.declared.fault.SubmitRefusal.{SubmitRefusal}
use Rattle.l2_node.specs.Building.{visit, visited}
use Rattle.l2_node.specs.End.{End}
use Rattle.bearer_types.specs.Sides.{heard_by}
use Rattle.l2_node.specs.Submitting.{refusal}
use Rattle.law_node.specs.Calls.{Turn, Call, SetVisits, SetReports, Add, Submit, SetDiscard, Tick, TickBuckets, Visits}
use Rattle.law_node.specs.Calls.{Grants, Granted, Assigned, Pass, Receive, Expire, Move}
use Rattle.law_node.specs.Holding.{flow}
use Rattle.pdcp_tx.specs.State.{State as Sending}
use Rattle.prioritise.specs.Channels.{has as has_channel}
use Rattle.law_deliver.specs.Accepted.{IsAccepted}
use Rattle.law_deliver.specs.AmFlow.Air.{Block, Station, Act, Calls, Comes, Goes}
use Rattle.law_deliver.specs.AmFlow.Channels.{only, share_of, held_of, takes_of, submits_of, calls_of}
use Rattle.promises.specs.Pdus.{carried}
use Rattle.law_deliver.proofs.AmFlow.Air.{calls_in as act_calls}
use Rattle.law_deliver.proofs.AmFlow.Places.{same_lcid}
use Rattle.law_deliver.proofs.AmFlow.Stations.{calls_by as block_calls}

-- no SDU is submitted
abbrev pub IsQuiet : BearerCall → Type 0
IsQuiet (Submits sdu) = ⊥
IsQuiet (Takes share held) = Unit {0}
IsQuiet (Arrives pdu) = Unit {0}
IsQuiet (Expires clock) = Unit {0}
IsQuiet Ticks = Unit {0}
IsQuiet (SetsDiscard ttis) = Unit {0}

-- so PDCP refuses nothing
pub quiet_accepted : (s : Sending) (c : BearerCall) → IsQuiet c → IsAccepted s c
quiet_accepted s (Submits sdu) q = absurd q
quiet_accepted s (Takes share held) q = tt
quiet_accepted s (Arrives pdu) q = tt
quiet_accepted s (Expires clock) q = tt
quiet_accepted s Ticks q = tt
quiet_accepted s (SetsDiscard ttis) q = tt

-- or one that isn't refused, alone
pub record SubmitsOne (f : Flow) (cs : List BearerCall) : Type 0 where
  pub sdu : List ℕ
  pub calls_are : cs ≡ Submits sdu ∷ []
  pub accepts : flow_refusal f sdu ≡ None

abbrev pub AreAcceptable : Flow → List BearerCall → Type 0
AreAcceptable f cs = AllByRecursion IsQuiet cs ⊎ SubmitsOne f cs

only_quiet : (here : Bool) (c : BearerCall) → IsQuiet c → AllByRecursion IsQuiet (only here c)
only_quiet true c q = (q, tt)
only_quiet false c q = tt

takes_quiet : (v : Visit) (t : Turn) (e : End) (l : ℕ) → AllByRecursion IsQuiet (takes_of v t e l)
takes_quiet New t e l = only_quiet (has_channel l e.buckets.channels) (Takes (share_of e t.grant l) (held_of e l)) tt
takes_quiet (Resend rv) t e l = tt
takes_quiet Silent t e l = tt

arrives_quiet : (pdus : List (List ℕ)) → AllByRecursion IsQuiet (map (λ pdu. Arrives pdu) pdus)
arrives_quiet [] = tt
arrives_quiet (pdu ∷ pdus) = (tt, arrives_quiet pdus)

flow_accepts : (l lcid : ℕ) (octets : List ℕ) (e : End) → (lcid == l) ≡ true → refusal lcid octets e ≡ None
    → flow_refusal (flow l e) octets ≡ None
unfolding refusal
flow_accepts l lcid octets e here none =
    ap (λ (k : ℕ). flow_refusal (flow k e) octets) (sym (same_lcid lcid l here)) ∙ none

submits_one : (r : Option SubmitRefusal) (here : Bool) (l lcid : ℕ) (octets : List ℕ) (e : End)
    → refusal lcid octets e ≡ r → (lcid == l) ≡ here → AreAcceptable (flow l e) (submits_of r here octets)
submits_one None true l lcid octets e none here =
    inr (record { sdu = octets; calls_are = refl; accepts = flow_accepts l lcid octets e here none })
submits_one None false l lcid octets e none here = inl tt
submits_one (Some why) here l lcid octets e none q = inl tt

calls_acceptable : (l : ℕ) (e : End) (c : Call) → AreAcceptable (flow l e) (calls_of l e c)
calls_acceptable l e (SetVisits maximum) = inl tt
calls_acceptable l e (SetReports reports) = inl tt
calls_acceptable l e (Add c keys) = inl tt
calls_acceptable l e (Submit lcid octets) =
    submits_one (refusal lcid octets e) (lcid == l) l lcid octets e refl refl
calls_acceptable l e (SetDiscard lcid ttis) = inl (only_quiet (lcid == l) (SetsDiscard ttis) tt)
calls_acceptable l e Tick = inl (tt, tt)
calls_acceptable l e TickBuckets = inl tt
calls_acceptable l e (Visits t) = inl (takes_quiet (visit t.tti t.order e) t (visited t.tti t.order e) l)
calls_acceptable l e (Grants tti) = inl tt
calls_acceptable l e (Granted tti good) = inl tt
calls_acceptable l e (Assigned tti ndi good) = inl tt
calls_acceptable l e (Pass tti) = inl tt
calls_acceptable l e (Receive block) = inl (arrives_quiet (carried l (heard_by e.side) block))
calls_acceptable l e (Expire lcid clock) = inl (only_quiet (lcid == l) (Expires clock) tt)
calls_acceptable l e (Move keys) = inl tt

brought_acceptable : (l : ℕ) (e : End) (o : Option Block) → AreAcceptable (flow l e) (block_calls l e o)
brought_acceptable l e None = inl tt
brought_acceptable l e (Some x) = calls_acceptable l e (Receive x.octets)

pub act_acceptable : (l : ℕ) (other s : Station) (x : Act) → AreAcceptable (flow l s.end) (act_calls l other s x)
act_acceptable l other s (Calls c) = calls_acceptable l s.end c
act_acceptable l other s (Comes k) = brought_acceptable l s.end (slice_get other.blocks k)
act_acceptable l other s (Goes k) = inl tt
