-- A call of an end in which no block comes is one call of its bearer, or none.
use Rattle.std.proofs.Common.{◌≡◌, ◌⊎◌, inl, inr, ℕ, Bool, true, false, ◌==◌, List, [], ◌∷◌, Option, Some, None, refl}
use Rattle.harq.specs.declared.sender.Visit.{Visit}
use Rattle.harq.specs.declared.sender.Visit.TheVariants.{New, Resend, Silent}
use Rattle.l2_bits.specs.declared.fault.SubmitRefusal.{SubmitRefusal}
use Rattle.l2_node.specs.Building.{visit, visited}
use Rattle.l2_node.specs.End.{End}
use Rattle.l2_node.specs.Submitting.{refusal}
use Rattle.law_bearer.specs.AnyBearer.Calls.{Call as BearerCall, Submit as Submits, Take as Takes, Tick as Ticks}
use Rattle.law_bearer.specs.AnyBearer.Calls.{Expire as Expires, SetDiscard as SetsDiscard}
use Rattle.law_node.specs.Calls.{Turn, Call, SetVisits, SetReports, Add, Submit, SetDiscard, Tick, TickBuckets, Visits}
use Rattle.law_node.specs.Calls.{Grants, Granted, Assigned, Pass, Receive, Expire, Move}
use Rattle.prioritise.specs.Channels.{has as has_channel}
use Rattle.law_deliver.specs.AmFlow.Channels.{only, share_of, held_of, takes_of, submits_of, calls_of}
use Rattle.law_deliver.specs.AmFlow.NoPdus.{BringsNoPdu, BringsNoBlock}

abbrev pub AreFew : List BearerCall → Type 0
AreFew cs = (cs ≡ []) ⊎ ((x : BearerCall) × ((cs ≡ x ∷ []) × BringsNoPdu x))

only_few : (here : Bool) (c : BearerCall) → BringsNoPdu c → AreFew (only here c)
only_few true c none = inr (c, (refl, none))
only_few false c none = inl refl

takes_few : (v : Visit) (t : Turn) (e : End) (l : ℕ) → AreFew (takes_of v t e l)
takes_few New t e l = only_few (has_channel l e.buckets.channels) (Takes (share_of e t.grant l) (held_of e l)) tt
takes_few (Resend rv) t e l = inl refl
takes_few Silent t e l = inl refl

submits_few : (r : Option SubmitRefusal) (here : Bool) (octets : List ℕ) → AreFew (submits_of r here octets)
submits_few None here octets = only_few here (Submits octets) tt
submits_few (Some why) here octets = inl refl

pub calls_are_few : (l : ℕ) (e : End) (c : Call) → BringsNoBlock c → AreFew (calls_of l e c)
calls_are_few l e (SetVisits maximum) none = inl refl
calls_are_few l e (SetReports reports) none = inl refl
calls_are_few l e (Add config keys) none = inl refl
calls_are_few l e (Submit lcid octets) none = submits_few (refusal lcid octets e) (lcid == l) octets
calls_are_few l e (SetDiscard lcid ttis) none = only_few (lcid == l) (SetsDiscard ttis) tt
calls_are_few l e Tick none = inr (Ticks, (refl, tt))
calls_are_few l e TickBuckets none = inl refl
calls_are_few l e (Visits t) none = takes_few (visit t.tti t.order e) t (visited t.tti t.order e) l
calls_are_few l e (Grants tti) none = inl refl
calls_are_few l e (Granted tti good) none = inl refl
calls_are_few l e (Assigned tti ndi good) none = inl refl
calls_are_few l e (Pass tti) none = inl refl
calls_are_few l e (Receive block) none = absurd none
calls_are_few l e (Expire lcid clock) none = only_few (lcid == l) (Expires clock) tt
calls_are_few l e (Move keys) none = inl refl
