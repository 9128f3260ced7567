-- In a call of an end its bearer of a channel logs first what comes, then what it tells, and then what it writes; or it
-- only hears PDUs.
use Rattle.std.proofs.Common.{◌≡◌, ◌⊎◌, inl, inr, ℕ, ◌==◌, Bool, true, false, Option, Some, None, List, [], ◌∷◌, ◌++◌}
use Rattle.std.proofs.Common.{map, append-nil, sym, subst}
use Rattle.std.specs.List.{AllByRecursion}
use Rattle.bearer.specs.Acknowledged.Hearing.{started_told}
use Rattle.bearer.specs.Acknowledged.State.{State}
use Rattle.bearer.specs.Taking.{pdus}
use Rattle.bearer.specs.declared.flow.Flow.TheVariants.{Am}
use Rattle.bearer_types.specs.Sides.{heard_by}
use Rattle.bearer_types.specs.declared.event.Event.{Event}
use Rattle.bearer_types.specs.declared.event.Event.TheVariants as events
use Rattle.harq.specs.declared.sender.Visit.{Visit}
use Rattle.harq.specs.declared.sender.Visit.TheVariants.{New, Resend, Silent}
use Rattle.l2_bits.specs.declared.fault.SubmitRefusal.{SubmitRefusal}
use Rattle.l2_node.specs.Building.{visit, visited}
use Rattle.l2_node.specs.End.{End}
use Rattle.l2_node.specs.Submitting.{refusal}
use Rattle.l2_types.specs.declared.event.Clock.{Clock}
use Rattle.l2_types.specs.declared.event.Clock.TheVariants.{Poll, Reorder, Prohibit}
use Rattle.prioritise.specs.Channels.{has as has_channel}
use Rattle.promises.specs.Pdus.{carried}
use Rattle.rlc_am_tx.specs.declared.answers.Heard.{Heard}
use Rattle.rlc_am_tx.specs.declared.answers.Heard.TheVariants as heard_as
use Rattle.rlc_am_tx.specs.Machine.{State as Sender, heard, settles as settles_so}
use Rattle.law_bearer.specs.AnyBearer.Calls.{Call as BearerCall, Take as Takes, Arrive as Arrives}
use Rattle.law_bearer.specs.AnyBearer.Calls.{Expire as Expires, Tick as Ticks, SetDiscard as SetsDiscard}
use Rattle.law_deliver.specs.AmFlow.Channels.{only, share_of, held_of, takes_of, submits_of, calls_of}
use Rattle.law_deliver.specs.AmFlow.Pair.{called}
use Rattle.law_deliver.specs.AmFlow.Ups.{tells_in}
use Rattle.law_node.specs.Calls.{Turn, Call, SetVisits, SetReports, Add, Submit, SetDiscard, Tick, TickBuckets, Visits}
use Rattle.law_node.specs.Calls.{Grants, Granted, Assigned, Pass, Receive, Expire, Move}
use Rattle.law_rlc.specs.AmSender.Run.{Offer as OffersSdu, Take as TakesPdu, Status as Hears}
use Rattle.law_rlc.specs.AmSender.Run.{Tick as TicksOn, Expire as ExpiresSo, Settle, Confirm}
use Rattle.law_run.specs.TwoEnds.ChannelLog.{parted}
use Rattle.law_run.specs.TwoEnds.SenderLog.{BearerEntry, Tells, Writes, Comes, telling, writing, bearer_logs}
use Rattle.law_run.specs.TwoEnds.SenderLog.{IsElse, is_of_flow, SenderDeed, Makes, Else, deed_log, deeds_log, IsDeed}
use Rattle.law_run.specs.TwoEnds.SenderLog.{AreDeeds, behind_deed, read_told}
use Rattle.law_run.proofs.ChannelLogs.{parted_is}
use Rattle.law_run.proofs.EndLogs.{AreMet, all_along}
use Rattle.law_run.proofs.SenderLog.{OfCalls, AreOf, IsOf, AsksNoMore}
use Rattle.law_bearer.proofs.AnyBearer.SenderCalls.{all_then}

-- a PDU comes, or what is told of it: nothing is taken of PDCP, and t-PollRetransmit doesn't expire
abbrev pub IsComing : BearerEntry → Type 0
IsComing (Tells (events.Take lcid count len)) = ⊥
IsComing (Tells (events.Report lcid fms bitmap)) = ⊥
IsComing (Tells (events.Expired lcid Poll)) = ⊥
IsComing (Tells e) = Unit {0}
IsComing (Writes octets) = ⊥
IsComing (Comes octets) = Unit {0}

abbrev pub IsOrdered : List BearerEntry → Type 0
IsOrdered log = (parted log ≡ log) ⊎ AllByRecursion IsComing log

-- ---- PDUs come

abbrev OnlyHears : OfCalls
OnlyHears s (OffersSdu sdu) es = ⊥
OnlyHears s (TakesPdu size held more) es = ⊥
OnlyHears s (Hears p) es = Unit {0}
OnlyHears s TicksOn es = Unit {0}
OnlyHears s (ExpiresSo more) es = ⊥
OnlyHears s (Settle more) es = Unit {0}
OnlyHears s Confirm es = Unit {0}

hears_few : AsksNoMore OnlyHears
hears_few = record { ticks = λ s. tt; settles = λ s more es. tt; confirms = λ s. tt }

hears_met : (pdus : List (List ℕ)) (b : State) → AreMet OnlyHears b (map (λ octets. Arrives octets) pdus)
hears_met [] b = tt
hears_met (octets ∷ pdus) b = (λ p e es. tt, hears_met pdus (called b (Arrives octets)))

read_coming : (lcid : ℕ) (h : Heard) → AllByRecursion IsComing (telling (read_told lcid h))
read_coming lcid heard_as.Ignored = (tt, tt)
read_coming lcid (heard_as.Limit sn) = (tt, tt)
read_coming lcid (heard_as.Applied true) = (tt, tt)
read_coming lcid (heard_as.Applied false) = tt

started_coming : (lcid : ℕ) (b : Bool) → AllByRecursion IsComing (telling (started_told lcid b))
started_coming lcid true = (tt, tt)
started_coming lcid false = tt

event_coming : (e : Event) → is_of_flow e ≡ false → IsComing (Tells e)
event_coming (events.Take lcid count len) h = cc
event_coming (events.Report lcid fms bitmap) h = cc
event_coming (events.Expired lcid Poll) h = cc
event_coming (events.Expired lcid Reorder) h = tt
event_coming (events.Expired lcid Prohibit) h = tt
event_coming e h = tt

else_coming : (log : List BearerEntry) → AllByRecursion IsElse log → AllByRecursion IsComing log
else_coming [] h = tt
else_coming (Tells e ∷ log) h = (event_coming e h.0, else_coming log h.1)
else_coming (Writes octets ∷ log) h = absurd h.0
else_coming (Comes octets ∷ log) h = (tt, else_coming log h.1)

as_told : (log told : List BearerEntry) → log ≡ told → AllByRecursion IsComing told → AllByRecursion IsComing log
as_told log told e h = subst (AllByRecursion IsComing) (sym e) h

deed_coming : (s : Sender) (d : SenderDeed) → IsDeed s d → IsOf OnlyHears s d → AllByRecursion IsComing (deed_log d)
deed_coming s (Makes (OffersSdu sdu) log) h q = absurd q
deed_coming s (Makes (TakesPdu size held more) log) h q = absurd q
deed_coming s (Makes (Hears p) log) (lcid, octets, read, e) q =
    as_told log (Comes octets ∷ telling (read_told lcid (heard s p))) e (tt, read_coming lcid (heard s p))
deed_coming s (Makes TicksOn log) e q = as_told log [] e tt
deed_coming s (Makes (ExpiresSo more) log) h q = absurd q
deed_coming s (Makes (Settle more) log) (lcid, e) q =
    as_told log (telling (started_told lcid (settles_so s more))) e (started_coming lcid (settles_so s more))
deed_coming s (Makes Confirm log) e q = as_told log [] e tt
deed_coming s (Else log) h q = else_coming log h

deeds_coming : (ds : List SenderDeed) (s : Sender) → AreDeeds s ds → AreOf OnlyHears s ds
    → AllByRecursion IsComing (deeds_log ds)
deeds_coming [] s are of = tt
deeds_coming (d ∷ ds) s are of =
    all_then IsComing (deed_log d) (deeds_log ds) (deed_coming s d are.0 of.0)
    (deeds_coming ds (behind_deed s d) are.1 of.1)

arrivals_coming : (l : ℕ) (b : State) (pdus : List (List ℕ))
    → AllByRecursion IsComing (bearer_logs l (Am b) (map (λ octets. Arrives octets) pdus))
arrivals_coming l b pdus =
    let x = (all_along OnlyHears hears_few l (map (λ octets. Arrives octets) pdus) b (hears_met pdus b)).along in
    subst (AllByRecursion IsComing) (sym x.logged) (deeds_coming x.deeds b.tx x.are x.of)

-- ---- any call

module _ (l : ℕ) (b : State) where
  abbrev Ordered : List BearerCall → Type 0
  Ordered cs = IsOrdered (bearer_logs l (Am b) cs)

  plain : (told : List Event) → IsOrdered (telling told ++ [])
  plain told = inl (parted_is told [])

  none : Ordered []
  none = plain []

  takes_only : (here : Bool) (share : ℕ) (held : Option ℕ) → Ordered (only here (Takes share held))
  takes_only true share held =
      let told = tells_in l (Am b) (Takes share held) in
      let written = pdus (Am b) share held in
      inl (subst (λ (log : List BearerEntry). parted log ≡ log) (sym (append-nil (telling told ++ writing written)))
      (parted_is told written))
  takes_only false share held = none

  expires_only : (here : Bool) (clock : Clock) → Ordered (only here (Expires clock))
  expires_only true clock = plain (tells_in l (Am b) (Expires clock))
  expires_only false clock = none

  discards_only : (here : Bool) (ttis : ℕ) → Ordered (only here (SetsDiscard ttis))
  discards_only true ttis = plain []
  discards_only false ttis = none

  submits : (r : Option SubmitRefusal) (here : Bool) (octets : List ℕ) → Ordered (submits_of r here octets)
  submits None true octets = plain []
  submits None false octets = none
  submits (Some why) here octets = none

  visit_ordered : (v : Visit) (t : Turn) (e : End) → Ordered (takes_of v t e l)
  visit_ordered New t e = takes_only (has_channel l e.buckets.channels) (share_of e t.grant l) (held_of e l)
  visit_ordered (Resend rv) t e = none
  visit_ordered Silent t e = none

  pub calls_ordered : (e : End) (c : Call) → Ordered (calls_of l e c)
  calls_ordered e (SetVisits maximum) = none
  calls_ordered e (SetReports reports) = none
  calls_ordered e (Add config keys) = none
  calls_ordered e (Submit lcid octets) = submits (refusal lcid octets e) (lcid == l) octets
  calls_ordered e (SetDiscard lcid ttis) = discards_only (lcid == l) ttis
  calls_ordered e Tick = plain (tells_in l (Am b) Ticks)
  calls_ordered e TickBuckets = none
  calls_ordered e (Visits t) = visit_ordered (visit t.tti t.order e) t (visited t.tti t.order e)
  calls_ordered e (Grants tti) = none
  calls_ordered e (Granted tti good) = none
  calls_ordered e (Assigned tti ndi good) = none
  calls_ordered e (Pass tti) = none
  calls_ordered e (Receive block) = inr (arrivals_coming l b (carried l (heard_by e.side) block))
  calls_ordered e (Expire lcid clock) = expires_only (lcid == l) clock
  calls_ordered e (Move keys) = none
