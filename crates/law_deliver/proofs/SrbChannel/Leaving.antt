-- The SDUs of a signalling bearer leave its queue in their order in a life, each told by its length.
use Rattle.std.proofs.Common.{◌≡◌, ℕ, ◌-◌, ◌%◌, Bool, true, false, if◌then◌else◌, nat_lt, Option, List, []}
use Rattle.std.proofs.Common.{◌∷◌, ◌++◌, map, length, append-nil, refl, ap, sym, subst, ◌∙◌}
use Rattle.std.proofs.lemmas.Grind.{flat_map-append}
use Rattle.std.proofs.lemmas.List.{map-append}
use Rattle.bearer.specs.declared.flow.Flow.TheVariants.{Am}
use Rattle.bearer.specs.Acknowledged.Hearing.{after_arrival, settled_if, started_told}
use Rattle.bearer.specs.Acknowledged.State.{State, has_more, Work, work}
use Rattle.bearer.specs.Acknowledged.Taking.{writes_status, prohibit_told, status_told, has_prohibit, fed, feeds}
use Rattle.bearer.specs.Acknowledged.Taking.{poll_told, data_told, answer_of, data_size, feeding, taking, after_taking}
use Rattle.bearer.specs.Acknowledged.Timing.{Ticking, poll_told as expired_poll, timer_told, told_of, expiry}
use Rattle.bearer.specs.Acknowledged.Timing.{expires_if, counts, has_ended, ticks as ticked_by, ticked as am_ticked}
use Rattle.bearer.specs.Acknowledged.Timing.{after_expiry}
use Rattle.bearer.specs.Hearing.{arrived as flow_arrived, expired as flow_expired, ticked as flow_ticked, with_discard}
use Rattle.bearer.specs.Hearing.{ticking as flow_ticking}
use Rattle.bearer.specs.Submitting.{submitted as flow_submitted}
use Rattle.bearer.specs.Taking.{told as flow_told, after as flow_after}
use Rattle.bearer_pdcp.specs.Discarding.{late_told, after_tick as after_discards, tick_told}
use Rattle.bearer_pdcp.specs.Ends.{Ends}
use Rattle.bearer_types.specs.declared.event.Event.TheVariants as events
use Rattle.l2_types.specs.declared.event.Clock.{Clock}
use Rattle.l2_types.specs.declared.event.Clock.TheVariants.{Poll, Reorder, Prohibit}
use Rattle.l2_types.specs.declared.event.How.TheVariants as how
use Rattle.law_bearer.specs.AnyBearer.Calls.{Call, Submit, Take, Arrive, Expire, Tick, SetDiscard}
use Rattle.law_bearer.specs.AnyBearer.Queue.{submits}
use Rattle.law_bearer.proofs.AnyBearer.Acknowledged.{take_left, arrival_moves, expiry_same, ticked_is}
use Rattle.law_bearer.proofs.AnyBearer.Between.{IsBetween}
use Rattle.law_bearer.proofs.AnyBearer.Sender.{submitting, submits_one, sdus, moved_queue}
use Rattle.law_node.proofs.Pdcp.{OfPdcp, arrives, expires, ticks_of, discards_of, takes_of}
use Rattle.law_node.proofs.Plain.{IsPlainSender, IsPlain, plain_passes}
use Rattle.pdcp_pdu.specs.declared.pdu.PdcpKind.TheVariants.{Srb}
use Rattle.pdcp_tx.specs.State.{State as Sending, Offer, offers, submitted as pdcp_submitted, ticked as pdcp_ticked}
use Rattle.promises.specs.Taken.{length_in, lengths_on}
use Rattle.rlc_am_rx.specs.State.{State as Receiver}
use Rattle.rlc_am_rx.specs.Status.{ack}
use Rattle.rlc_am_tx.specs.Machine.{settles}
use Rattle.rlc_am_tx.specs.Need.{hungry}
use Rattle.rlc_am_tx.specs.declared.answers.PollExpired.{PollExpired}
use Rattle.rlc_am_tx.specs.declared.answers.PollExpired.TheVariants as polls
use Rattle.rlc_pdu.specs.declared.Expired.{Expired}
use Rattle.rlc_pdu.specs.declared.Expired.TheVariants.{Done, NotRunning}
use Rattle.rlc_pdu.specs.declared.Taken.{Taken}
use Rattle.rlc_pdu.specs.declared.Taken.TheVariants.{Piece, Idle, Small, Shut, Held, Stopped}
use Rattle.law_deliver.specs.AmFlow.Pair.{called}
use Rattle.law_deliver.proofs.AmChannel.Ends.{lengths_in, length_off}
use Rattle.law_deliver.proofs.AmChannel.Feeding.{feeds_lens}
use Rattle.law_deliver.proofs.AmChannel.Lengths.{lens, tick_lens, hears_none, same_lens}
use Rattle.law_deliver.proofs.AmChannel.Waiting.{ticks_pdcp}
use Rattle.law_deliver.proofs.AmFlow.Events.{none_arriving, none_expiring}
use Rattle.law_deliver.proofs.AmFlow.Sending.{is_called}

-- ---- RLC takes PDUs

feeds_told : (l : ℕ) (os : List Offer) (size : ℕ) (held : Option ℕ) (w : Work) → w.pdcp.lcid ≡ l
    → IsPlain Srb w.pdcp
    → lengths_on l (feeds os size held w).events ++ lens (feeds os size held w).pdcp.tx.waiting
    ≡ lengths_on l w.events ++ lens w.pdcp.tx.waiting
feeds_told l os size held w own h =
    feeds_lens (λ (v : Work). v.events) (λ (v : Work). v.pdcp) (λ (v : Work). hungry v.tx size held) fed
    (λ v. refl) (λ v. refl) (λ (xs : List Offer) (v : Work). feeds xs size held v) (λ v. refl) (λ o xs v. refl)
    Srb refl l os w own h

poll_none : (l lcid : ℕ) (polled : Bool) → lengths_on l (poll_told lcid polled) ≡ []
poll_none l lcid true = refl
poll_none l lcid false = refl

data_none : (l lcid : ℕ) (t : Taken) → lengths_on l (data_told lcid t) ≡ []
data_none l lcid (Piece number first polled octets) = poll_none l lcid polled
data_none l lcid Idle = refl
data_none l lcid Small = refl
data_none l lcid Shut = refl
data_none l lcid Held = refl
data_none l lcid Stopped = refl

status_none : (l lcid : ℕ) (has : Bool) (r : Receiver) (share : ℕ) → lengths_on l (status_told lcid has r share) ≡ []
status_none l lcid has r share = by (writes_status r share)
  where
    prohibits : (b : Bool) → lengths_on l (prohibit_told lcid b) ≡ []
    prohibits true = refl
    prohibits false = refl

    by : (b : Bool) → lengths_on l
        (if b then events.Send lcid how.Status (ack r (share - 3) % 1024) ∷ prohibit_told lcid has else []) ≡ []
    by true = prohibits has
    by false = refl

take_told : (l : ℕ) (b : State) (share : ℕ) (held : Option ℕ) → b.pdcp.lcid ≡ l → IsPlain Srb b.pdcp
    → lengths_in l (Am b) (Take share held) ++ lens (after_taking b share held).pdcp.tx.waiting ≡ lens b.pdcp.tx.waiting
unfolding flow_told taking
take_told l b share held own h =
    let f = feeding b share held in
    let room = data_size b share in
    let status = status_told b.pdcp.lcid (has_prohibit b) b.rx share in
    let data' = data_told f.pdcp.lcid (answer_of f room held) in
    let none : lengths_on l (f.events ++ data') ≡ lengths_on l f.events =
    flat_map-append (length_in l) f.events data'
    ∙ (ap (λ (ns : List ℕ). lengths_on l f.events ++ ns) (data_none l f.pdcp.lcid (answer_of f room held))
    ∙ append-nil (lengths_on l f.events)) in
    ap (λ (ns : List ℕ). ns ++ lens (after_taking b share held).pdcp.tx.waiting) none
    ∙ (ap (λ (e : Ends). lengths_on l f.events ++ lens e.tx.waiting) (take_left b share held)
    ∙ (feeds_told l (offers b.pdcp.tx) room held (work b.pdcp b.tx status) own h
    ∙ ap (λ (ns : List ℕ). ns ++ lens b.pdcp.tx.waiting) (status_none l b.pdcp.lcid (has_prohibit b) b.rx share)))

-- ---- as a TTI begins

expired_none : (l lcid : ℕ) (x : PollExpired) → lengths_on l (told_of (expired_poll lcid x)) ≡ []
expired_none l lcid polls.NotRunning = refl
expired_none l lcid polls.Done = refl
expired_none l lcid (polls.Limit sn) = refl

timer_none : (l lcid : ℕ) (clock : Clock) (x : Expired) → lengths_on l (told_of (timer_told lcid clock x)) ≡ []
timer_none l lcid clock NotRunning = refl
timer_none l lcid clock (Done true) = refl
timer_none l lcid clock (Done false) = refl

clock_none : (l : ℕ) (clock : Clock) (b : State) → lengths_on l (told_of (expiry b clock)) ≡ []
unfolding expiry
clock_none l Poll b = expired_none l b.pdcp.lcid _
clock_none l Reorder b = timer_none l b.pdcp.lcid Reorder _
clock_none l Prohibit b = timer_none l b.pdcp.lcid Prohibit _

ended_none : (l : ℕ) (ended : Bool) (clock : Clock) (t : Ticking)
    → lengths_on l (expires_if ended clock t).events ≡ lengths_on l t.events
ended_none l true clock t =
    flat_map-append (length_in l) t.events (told_of (expiry t.bearer clock))
    ∙ (ap (λ (ns : List ℕ). lengths_on l t.events ++ ns) (clock_none l clock t.bearer)
    ∙ append-nil (lengths_on l t.events))
ended_none l false clock t = refl

ticks_none : (l : ℕ) (clock : Clock) (t : Ticking)
    → lengths_on l (ticked_by clock t).events ≡ lengths_on l t.events
ticks_none l clock t = ended_none l (has_ended clock t.bearer) clock (record t { bearer = counts clock t.bearer })

settled_none : (settles' : Bool) (l : ℕ) (w : Work)
    → lengths_on l (settled_if settles' w).events ≡ lengths_on l w.events
settled_none true l w =
    flat_map-append (length_in l) w.events (started_told w.pdcp.lcid (settles w.tx (has_more w.pdcp)))
    ∙ (ap (λ (ns : List ℕ). lengths_on l w.events ++ ns) (started (settles w.tx (has_more w.pdcp)))
    ∙ append-nil (lengths_on l w.events))
  where
    started : (b : Bool) → lengths_on l (started_told w.pdcp.lcid b) ≡ []
    started true = refl
    started false = refl
settled_none false l w = refl

tick_events : (l : ℕ) (b : State) → lengths_in l (Am b) Tick ≡ lengths_on l (tick_told b.pdcp)
unfolding flow_ticking am_ticked after_discards tick_told
tick_events l b =
    let t0 : Ticking = record { bearer = b; events = [] } in
    let t1 = ticked_by Poll t0 in
    let t2 = ticked_by Reorder t1 in
    let t3 = ticked_by Prohibit t2 in
    let d = t3.bearer.pdcp in
    let same : d ≡ b.pdcp = ticks_pdcp Prohibit t2 ∙ ticks_pdcp Reorder t1 ∙ ticks_pdcp Poll t0 in
    let told = late_told d.lcid d.tx.waiting (pdcp_ticked d.tx) in
    let settles' = nat_lt 0 (length told) in
    let w : Work = work (after_discards d) t3.bearer.tx (t3.events ++ told) in
    let silent : lengths_on l t3.events ≡ [] =
    ticks_none l Prohibit t2 ∙ ticks_none l Reorder t1 ∙ ticks_none l Poll t0 in
    settled_none settles' l w
    ∙ (flat_map-append (length_in l) t3.events told
    ∙ (ap (λ (ns : List ℕ). ns ++ lengths_on l told) silent
    ∙ ap (λ (e : Ends). lengths_on l (late_told e.lcid e.tx.waiting (pdcp_ticked e.tx))) same))

ticks_told : (l : ℕ) (b : State) → b.pdcp.lcid ≡ l
    → lengths_in l (Am b) Tick ++ lens (am_ticked b).bearer.pdcp.tx.waiting ≡ lens b.pdcp.tx.waiting
ticks_told l b own =
    ap (λ (ns : List ℕ). ns ++ lens (am_ticked b).bearer.pdcp.tx.waiting) (tick_events l b)
    ∙ (ap (λ (e : Ends). lengths_on l (tick_told b.pdcp) ++ lens e.tx.waiting) (ticked_is b)
    ∙ tick_lens l b.pdcp own)

-- ---- a call

pub call_lens : (l : ℕ) (b : State) (c : Call) → IsBetween l (Am b) → IsPlain Srb b.pdcp
    → lengths_in l (Am b) c ++ lens (called b c).pdcp.tx.waiting ≡ lens b.pdcp.tx.waiting ++ map length (submits c)
unfolding flow_submitted flow_arrived flow_expired flow_ticked with_discard flow_after
call_lens l b (Submit sdu) k h =
    ap (λ (xs : List (List ℕ)). map length xs)
    (moved_queue b.pdcp.tx (pdcp_submitted b.pdcp.tx sdu) (submitting sdu) (submits_one b.pdcp.tx sdu))
    ∙ map-append length (sdus b.pdcp.tx.waiting) (sdu ∷ [])
call_lens l b (Take share held) k h = take_told l b share held k.own h ∙ sym (append-nil (lens b.pdcp.tx.waiting))
call_lens l b (Arrive pdu) k h =
    ap (λ (ns : List ℕ). ns ++ lens (after_arrival b pdu).pdcp.tx.waiting)
    (none_arriving length_in length_off l (Am b) k (hears_none l l) pdu)
    ∙ (same_lens b.pdcp (after_arrival b pdu).pdcp (arrival_moves b pdu)
    ∙ sym (append-nil (lens b.pdcp.tx.waiting)))
call_lens l b (Expire clock) k h =
    ap (λ (ns : List ℕ). ns ++ lens (after_expiry b clock).pdcp.tx.waiting)
    (none_expiring length_in length_off l (Am b) k (hears_none l l) clock)
    ∙ (ap (λ (e : Ends). lens e.tx.waiting) (expiry_same b clock) ∙ sym (append-nil (lens b.pdcp.tx.waiting)))
call_lens l b Tick k h = ticks_told l b k.own ∙ sym (append-nil (lens b.pdcp.tx.waiting))
call_lens l b (SetDiscard ttis) k h = sym (append-nil (lens b.pdcp.tx.waiting))

-- ---- it stays one of signalling

plain_submitted : (s : Sending) (sdu : List ℕ) → IsPlainSender Srb s → IsPlainSender Srb (pdcp_submitted s sdu)
unfolding pdcp_submitted
plain_submitted s sdu h = record {
  kind_is = h.kind_is;
  owes_none = h.owes_none;
  none_again = h.none_again;
  none_given = h.none_given;
}

pub plain_called : (b : State) (c : Call) → IsPlain Srb b.pdcp → IsPlain Srb (called b c).pdcp
unfolding flow_submitted
plain_called b (Submit sdu) h = record { own = h.own; sender = plain_submitted b.pdcp.tx sdu h.sender }
plain_called b (Take share held) h =
    subst (OfPdcp (IsPlain Srb)) (is_called b (Take share held))
    (takes_of (IsPlain Srb) (plain_passes Srb refl) (Am b) share held h)
plain_called b (Arrive pdu) h =
    subst (OfPdcp (IsPlain Srb)) (is_called b (Arrive pdu))
    (arrives (IsPlain Srb) (plain_passes Srb refl) (Am b) pdu h)
plain_called b (Expire clock) h =
    subst (OfPdcp (IsPlain Srb)) (is_called b (Expire clock))
    (expires (IsPlain Srb) (plain_passes Srb refl) (Am b) clock h)
plain_called b Tick h =
    subst (OfPdcp (IsPlain Srb)) (is_called b Tick) (ticks_of (IsPlain Srb) (plain_passes Srb refl) (Am b) h)
plain_called b (SetDiscard ttis) h =
    subst (OfPdcp (IsPlain Srb)) (is_called b (SetDiscard ttis))
    (discards_of (IsPlain Srb) (plain_passes Srb refl) (Am b) ttis h)
