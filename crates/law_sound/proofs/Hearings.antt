-- An acknowledged bearer goes along the history of the flow that it hears.
use Rattle.std.proofs.Common.{◌≡◌, ℕ, Bool, true, false, if◌then◌else◌, List, [], ◌∷◌, ◌++◌}
use Rattle.std.proofs.Common.{Result, Ok, Err, refl, ap, sym, subst, ◌∙◌}
use Rattle.std.specs.List.{AllByRecursion}
use Rattle.rlc_pdu.specs.declared.Expired.{Expired as Answer}
use Rattle.rlc_pdu.specs.declared.Expired.TheVariants.{Done, NotRunning}
use Rattle.rlc_pdu.specs.declared.fault.RlcRefusal.{RlcRefusal}
use Rattle.rlc_pdu.specs.Pdus.{AcknowledgedPdu, AmdPdu, Payload, Status as Control}
use Rattle.rlc_pdu.specs.Reading.{am_at}
use Rattle.rlc_am_rx.specs.Machine.{arrived, turned, reorder_answer}
use Rattle.rlc_am_rx.specs.State.{State as Receiver}
use Rattle.rlc_am_tx.specs.Machine.{State as Sender}
use Rattle.bearer.specs.Acknowledged.State.{State}
use Rattle.bearer.specs.Acknowledged.Taking.{writes_status}
use Rattle.bearer.specs.declared.flow.Flow.TheVariants.{Am}
use Rattle.bearer_types.specs.declared.event.Event.{Event}
use Rattle.journal_account.specs.FlowEvents.{FlowEvent, ReorderExpired}
use Rattle.law_rlc.specs.AmReceiver.Run.{Call as ReceiverCall, Arrive as Hears, Up, Write, ExpireReorder}
use Rattle.law_rlc.specs.AmReceiver.Run.{ExpireProhibit, TickReorder, TickProhibit, state_after}
use Rattle.law_rlc.specs.AmPair.Flow.{Flow, sender, receiver, goes, am_rlc_outset}
use Rattle.law_bearer.specs.AnyBearer.Acknowledged.{hears_on, data_heard, receiver_calls, IsOfReceiver}
use Rattle.law_bearer.specs.AnyBearer.Calls.{Call, Submit, Take, Arrive, Expire, Tick, SetDiscard}
use Rattle.law_bearer.proofs.AnyBearer.SenderCalls.{all_then}
use Rattle.law_bearer.proofs.AnyBearer.ReceiverCalls.{hears_then}
use Rattle.law_deliver.specs.AmFlow.Reordering.{Reordering, starts_if, expiry_of, reordering_in, reordering_by}
use Rattle.law_deliver.specs.AmFlow.Reordering.{reordering_over, TellsReordering}
use Rattle.law_deliver.specs.AmFlow.Ups.{tells_in}
use Rattle.law_deliver.proofs.AmFlow.Reordering.{bearers_tell}
use Rattle.law_account.specs.EndsTold.{AreEndsOf, BringsNone}
use Rattle.law_account.specs.FlowHistory.{with_start, with_expiry, with_hearing, with_data}
use Rattle.law_account.proofs.EndsTold.{receivers_go_on, copies_go_on}
use Rattle.law_sound.specs.HearingLaws.{event_of, with_reordering, with_hearings, ReorderingsAreEvents}
use Rattle.law_sound.specs.HearingLaws.{ReceiversGoOnOver, BringsNoData, BearersHear, octets_of}
use Rattle.law_sound.specs.HearingLaws.{BearersHearData, EndsReportTruly}
use Rattle.law_sound.proofs.Reports.{reports_gathered}

-- ---- each call of a receiver

start_is : (b : Bool) (es : List FlowEvent) → with_start b es ≡ with_reordering (starts_if b) es
start_is true es = refl
start_is false es = refl

expiry_is : (x : Answer) (es : List FlowEvent) → with_expiry x es ≡ with_reordering (expiry_of x) es
expiry_is NotRunning es = refl
expiry_is (Done again) es = start_is again (ReorderExpired ∷ es)

hearing_is : (r : Receiver) (c : ReceiverCall) (es : List FlowEvent) → BringsNone c
    → with_hearing r c es ≡ with_reordering (reordering_by r c) es
hearing_is r (Hears pdu) es none = absurd none
hearing_is r Up es none = refl
hearing_is r Write es none = refl
hearing_is r ExpireReorder es none = expiry_is (reorder_answer r.mark r) es
hearing_is r ExpireProhibit es none = refl
hearing_is r TickReorder es none = refl
hearing_is r TickProhibit es none = refl

-- ---- one behind the other

pub reordering_then : (xs ys : List Reordering) (es : List FlowEvent)
    → with_reordering (xs ++ ys) es ≡ with_reordering ys (with_reordering xs es)
reordering_then [] ys es = refl
reordering_then (x ∷ xs) ys es = reordering_then xs ys (event_of x ∷ es)

pub reorderings_are_events : ReorderingsAreEvents
reorderings_are_events [] r es none = refl
reorderings_are_events (c ∷ cs) r es none =
    reorderings_are_events cs (state_after r c) (with_hearing r c es) none.1
    ∙ (ap (with_reordering (reordering_over cs (state_after r c))) (hearing_is r c es none.0)
    ∙ sym (reordering_then (reordering_by r c) (reordering_over cs (state_after r c)) es))

hearings_go_on : (most : ℕ) (es : List FlowEvent) (tx : Sender) (rx : Receiver) (cs : List ReceiverCall)
    → AllByRecursion BringsNone cs → AreEndsOf most es tx rx
    → AreEndsOf most (with_hearings cs rx es) tx (hears_on cs rx)
hearings_go_on most es tx rx [] none ends = ends
hearings_go_on most es tx rx (c ∷ cs) none ends =
    hearings_go_on most (with_hearing rx c es) tx (state_after rx c) cs none.1
    (receivers_go_on most es tx rx c none.0 ends)

pub receivers_go_on_over : ReceiversGoOnOver
receivers_go_on_over most es tx rx cs none ends =
    subst (λ (xs : List FlowEvent). AreEndsOf most xs tx (hears_on cs rx)) (reorderings_are_events cs rx es none)
    (hearings_go_on most es tx rx cs none ends)

-- ---- a call of the bearer

own_none : (c : ReceiverCall) → IsOfReceiver c → BringsNone c
own_none (Hears pdu) own = own
own_none Up own = tt
own_none Write own = tt
own_none ExpireReorder own = tt
own_none ExpireProhibit own = tt
own_none TickReorder own = tt
own_none TickProhibit own = tt

all_own_none : (cs : List ReceiverCall) → AllByRecursion IsOfReceiver cs → AllByRecursion BringsNone cs
all_own_none [] own = tt
all_own_none (c ∷ cs) own = (own_none c own.0, all_own_none cs own.1)

-- a receiver goes on by calls that bring no PDU, and tells of its timer
told_on : (most : ℕ) (es : List FlowEvent) (tx : Sender) (r t : Receiver) (cs : List ReceiverCall) (told : List Event)
    → AllByRecursion BringsNone cs → TellsReordering r t cs told → AreEndsOf most es tx r
    → AreEndsOf most (with_reordering (reordering_in told) es) tx t
told_on most es tx r t cs told none h ends =
    let goes_on : AreEndsOf most (with_reordering (reordering_over (cs ++ h.own) r) es) tx (hears_on (cs ++ h.own) r) =
    receivers_go_on_over most es tx r (cs ++ h.own)
    (all_then BringsNone cs h.own none (all_own_none h.own h.are_own)) ends in
    subst (λ (x : Receiver). AreEndsOf most (with_reordering (reordering_in told) es) tx x)
    (hears_then r cs h.own ∙ sym h.left)
    (subst (λ (xs : List Reordering). AreEndsOf most (with_reordering xs es) tx (hears_on (cs ++ h.own) r))
    (sym h.told_is) goes_on)

heard_none : (octets : List ℕ) → BringsNoData (Arrive octets) → AllByRecursion BringsNone (data_heard (am_at octets))
heard_none octets none = by (am_at octets) refl
  where
    by : (x : Result AcknowledgedPdu RlcRefusal) → am_at octets ≡ x → AllByRecursion BringsNone (data_heard x)
    by (Ok (Payload pdu)) e = absurd (none pdu e)
    by (Ok (Control pdu)) e = tt
    by (Err refused) e = tt

write_none : (b : Bool) → AllByRecursion BringsNone (if b then Write ∷ [] else [])
write_none true = (tt, tt)
write_none false = tt

calls_none : (b : State) (c : Call) → BringsNoData c → AllByRecursion BringsNone (receiver_calls b c)
calls_none b (Submit sdu) none = tt
calls_none b (Take share held) none = write_none (writes_status b.rx share)
calls_none b (Arrive octets) none = heard_none octets none
calls_none b (Expire clock) none = tt
calls_none b Tick none = tt
calls_none b (SetDiscard ttis) none = tt

pub bearers_hear : BearersHear
bearers_hear most l es tx b d c none q ends =
    told_on most es tx b.rx d.rx (receiver_calls b c) (tells_in l (Am b) c) (calls_none b c none)
    (bearers_tell l b d c q) ends

-- ---- a data PDU comes

-- a PDU that is read so is the first call, and what its receiver does then is told first
data_then : (most : ℕ) (es : List FlowEvent) (tx : Sender) (r t : Receiver) (n : ℕ) (pdu : AmdPdu) (e : FlowEvent)
    (told : List Event) → with_data r n (Ok (Payload pdu)) es ≡ with_start (turned r pdu).started (e ∷ es)
    → TellsReordering r t (Hears pdu ∷ []) told
    → AreEndsOf most (with_data r n (Ok (Payload pdu)) es) tx (arrived r pdu)
    → AreEndsOf most (with_reordering (reordering_in told) (e ∷ es)) tx t
data_then most es tx r t n pdu e told same h ends =
    let behind : List FlowEvent = with_reordering (starts_if (turned r pdu).started) (e ∷ es) in
    let there : AreEndsOf most behind tx (arrived r pdu) =
    subst (λ (xs : List FlowEvent). AreEndsOf most xs tx (arrived r pdu))
    (same ∙ start_is (turned r pdu).started (e ∷ es)) ends in
    let own : AreEndsOf most (with_reordering (reordering_over h.own (arrived r pdu)) behind) tx
    (hears_on h.own (arrived r pdu)) =
    receivers_go_on_over most behind tx (arrived r pdu) h.own (all_own_none h.own h.are_own) there in
    let told_is : with_reordering (reordering_in told) (e ∷ es)
    ≡ with_reordering (reordering_over h.own (arrived r pdu)) behind =
    ap (λ (xs : List Reordering). with_reordering xs (e ∷ es)) h.told_is
    ∙ reordering_then (starts_if (turned r pdu).started) (reordering_over h.own (arrived r pdu)) (e ∷ es) in
    subst (λ (x : Receiver). AreEndsOf most (with_reordering (reordering_in told) (e ∷ es)) tx x) (sym h.left)
    (subst (λ (xs : List FlowEvent). AreEndsOf most xs tx (hears_on h.own (arrived r pdu))) (sym told_is) own)

pub bearers_hear_data : BearersHearData
bearers_hear_data sending receiving steps given most l es b d k c pdu at read here q ends =
    let f : Flow = goes steps (am_rlc_outset sending receiving) in
    let there : AreEndsOf most es (sender f).state (receiver f).state =
    subst (λ (x : Receiver). AreEndsOf most es (sender f).state x) here ends in
    let come : AreEndsOf most (with_data (receiver f).state c.number (Ok (Payload pdu)) es) (sender f).state
    (arrived (receiver f).state pdu) = copies_go_on sending receiving steps given most es k c pdu at read there in
    let own : AreEndsOf most (with_data b.rx c.number (Ok (Payload pdu)) es) (sender f).state (arrived b.rx pdu) =
    subst (λ (x : Receiver).
    AreEndsOf most (with_data x c.number (Ok (Payload pdu)) es) (sender f).state (arrived x pdu))
    (sym here) come in
    let tells : TellsReordering b.rx d.rx (Hears pdu ∷ []) (tells_in l (Am b) (Arrive c.octets)) =
    subst (λ (x : Result AcknowledgedPdu RlcRefusal). TellsReordering b.rx d.rx (data_heard x)
    (tells_in l (Am b) (Arrive c.octets))) read (bearers_tell l b d (Arrive c.octets) q) in
    data_then most es (sender f).state b.rx d.rx c.number pdu (octets_of c pdu) (tells_in l (Am b) (Arrive c.octets))
    refl tells own

-- ---- a STATUS is written

pub ends_report_truly : EndsReportTruly
ends_report_truly most es tx rx size next lcid status ends ack_is nacks_are =
    reports_gathered most es rx size next lcid status ends.follows.history ends.hears ack_is nacks_are
