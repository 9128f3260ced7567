-- Where no block comes no PDU comes to a bearer.
use Rattle.std.proofs.Common.{◌≡◌, ℕ, Bool, true, false, ◌==◌, List, [], Option, Some, None, append-nil, refl, ap, ◌∙◌}
use Rattle.std.specs.List.{AllByRecursion}
use Rattle.bearer.specs.Acknowledged.State.{State}
use Rattle.bearer.specs.Acknowledged.Taking.{taking}
use Rattle.bearer.specs.Taking.{told}
use Rattle.bearer.specs.declared.flow.Flow.TheVariants.{Am}
use Rattle.bearer_types.specs.declared.event.Event.{Event}
use Rattle.harq.specs.declared.sender.Visit.{Visit}
use Rattle.harq.specs.declared.sender.Visit.TheVariants.{New, Resend, Silent}
use Rattle.l2_bits.specs.declared.fault.SubmitRefusal.{SubmitRefusal}
use Rattle.l2_node.specs.Building.{visit, visited}
use Rattle.l2_node.specs.End.{End}
use Rattle.l2_node.specs.Submitting.{refusal}
use Rattle.law_bearer.specs.AnyBearer.Calls.{Call as BearerCall, Submit as Submits, Take as Takes}
use Rattle.law_bearer.specs.AnyBearer.Calls.{Expire as Expires, SetDiscard as SetsDiscard}
use Rattle.law_node.specs.Calls.{Turn, SetVisits, SetReports, Add, Submit, SetDiscard, Tick, TickBuckets, Visits}
use Rattle.law_node.specs.Calls.{Grants, Granted, Assigned, Pass, Receive, Expire, Move}
use Rattle.prioritise.specs.Channels.{has as has_channel}
use Rattle.law_deliver.specs.AmFlow.Channels.{only, share_of, held_of, takes_of, submits_of}
use Rattle.law_deliver.specs.AmFlow.NoPdus.{BringsNoPdu, CallsBringNoPdu, TurnsTellNoReordering}
use Rattle.law_deliver.specs.AmFlow.Reordering.{reordering_in}
use Rattle.law_deliver.specs.AmFlow.Ups.{tells_over}
use Rattle.law_deliver.proofs.AmFlow.Reordering.{taking_silent}

only_none : (here : Bool) (c : BearerCall) → BringsNoPdu c → AllByRecursion BringsNoPdu (only here c)
only_none true c none = (none, tt)
only_none false c none = tt

takes_none : (v : Visit) (t : Turn) (e : End) (l : ℕ) → AllByRecursion BringsNoPdu (takes_of v t e l)
takes_none New t e l = only_none (has_channel l e.buckets.channels) (Takes (share_of e t.grant l) (held_of e l)) tt
takes_none (Resend rv) t e l = tt
takes_none Silent t e l = tt

submits_none : (r : Option SubmitRefusal) (here : Bool) (octets : List ℕ)
    → AllByRecursion BringsNoPdu (submits_of r here octets)
submits_none None here octets = only_none here (Submits octets) tt
submits_none (Some why) here octets = tt

pub calls_bring_none : CallsBringNoPdu
calls_bring_none l e (SetVisits maximum) none = tt
calls_bring_none l e (SetReports reports) none = tt
calls_bring_none l e (Add config keys) none = tt
calls_bring_none l e (Submit lcid octets) none = submits_none (refusal lcid octets e) (lcid == l) octets
calls_bring_none l e (SetDiscard lcid ttis) none = only_none (lcid == l) (SetsDiscard ttis) tt
calls_bring_none l e Tick none = (tt, tt)
calls_bring_none l e TickBuckets none = tt
calls_bring_none l e (Visits t) none = takes_none (visit t.tti t.order e) t (visited t.tti t.order e) l
calls_bring_none l e (Grants tti) none = tt
calls_bring_none l e (Granted tti good) none = tt
calls_bring_none l e (Assigned tti ndi good) none = tt
calls_bring_none l e (Pass tti) none = tt
calls_bring_none l e (Receive block) none = absurd none
calls_bring_none l e (Expire lcid clock) none = only_none (lcid == l) (Expires clock) tt
calls_bring_none l e (Move keys) none = tt

-- ---- a turn

take_silent : (here : Bool) (l : ℕ) (b : State) (share : ℕ) (held : Option ℕ)
    → reordering_in (tells_over l (Am b) (only here (Takes share held))) ≡ []
unfolding told
take_silent true l b share held =
    ap (λ (told : List Event). reordering_in told) (append-nil (taking b share held)) ∙ taking_silent b share held
take_silent false l b share held = refl

turn_silent : (v : Visit) (t : Turn) (e : End) (l : ℕ) (b : State)
    → reordering_in (tells_over l (Am b) (takes_of v t e l)) ≡ []
turn_silent New t e l b = take_silent (has_channel l e.buckets.channels) l b (share_of e t.grant l) (held_of e l)
turn_silent (Resend rv) t e l b = refl
turn_silent Silent t e l b = refl

pub turns_tell_none : TurnsTellNoReordering
turns_tell_none l e t b = turn_silent (visit t.tti t.order e) t (visited t.tti t.order e) l b
