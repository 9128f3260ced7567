-- What each call of an acknowledged bearer is to RLC's receiver.
use Rattle.std.proofs.Common.{◌≡◌, ℕ, Bool, true, false, if◌then◌else◌, List, [], ◌∷◌, ◌++◌, drop, Option, Some, Result}
use Rattle.std.proofs.Common.{Ok, Err, subst, refl, ap, sym, ◌∙◌}
use Rattle.l2_types.specs.declared.Clock.{Clock}
use Rattle.l2_types.specs.declared.Clock.TheVariants.{Poll, Reorder, Prohibit}
use Rattle.eps_sec.specs.declared.Keys.{Keys}
use Rattle.pdcp_tx.specs.State.{submitted as pdcp_submitted}
use Rattle.rlc_pdu.specs.declared.RlcRefusal.{RlcRefusal}
use Rattle.rlc_pdu.specs.Pdus.{AcknowledgedPdu, Payload, Status as StatusRead}
use Rattle.rlc_pdu.specs.Reading.{am_at}
use Rattle.rlc_am_rx.specs.State.{State as Receiver, fresh}
use Rattle.rlc_am_rx.specs.Machine.{arrived, taken, written}
use Rattle.law_rlc.specs.AmReceiver.Run.{Call as ReceiverCall, Arrive as Hears, Up, Write, ExpireReorder}
use Rattle.law_rlc.specs.AmReceiver.Run.{ExpireProhibit, TickReorder, TickProhibit, state_after}
use Rattle.bearer.specs.Acknowledged.State.{State}
use Rattle.bearer.specs.Acknowledged.Taking.{after_taking, writes_status}
use Rattle.bearer.specs.Acknowledged.Hearing.{all_handed, arrived_left, after_arrival}
use Rattle.bearer.specs.Acknowledged.Timing.{Ticking, expires_if, clock_left, counts, has_ended, ticks, after_expiry}
use Rattle.bearer.specs.Acknowledged.Timing.{ticked}
use Rattle.bearer.specs.Acknowledged.Lives.{stopped as am_stopped, restarted as am_restarted}
use Rattle.bearer.specs.declared.flow.Flow.TheVariants.{Am}
use Rattle.bearer.specs.Submitting.{submitted}
use Rattle.bearer.specs.Taking.{after as taken_from}
use Rattle.bearer.specs.Hearing.{arrived as flow_arrived, expired, ticked as flow_ticked, with_discard}
use Rattle.bearer.specs.Lives.{stopped, restarted}
use Rattle.law_bearer.specs.AnyBearer.Calls.{Call, Submit, Take, Arrive, Expire, Tick, SetDiscard, after, Restart, goes}
use Rattle.law_bearer.specs.AnyBearer.Acknowledged.{hears_on, data_heard, receiver_calls, IsOfReceiver, ReceiverGoes}
use Rattle.law_bearer.proofs.AnyBearer.SenderCalls.{all_then}

-- ---- calls one behind the other

pub hears_then : (r : Receiver) (cs ds : List ReceiverCall) → hears_on (cs ++ ds) r ≡ hears_on ds (hears_on cs r)
hears_then r [] ds = refl
hears_then r (c ∷ cs) ds = hears_then (state_after r c) cs ds

rests : (r : Receiver) → ReceiverGoes r r []
rests r = record { own = []; are_own = tt; left = refl }

more_own : (r s t : Receiver) (cs : List ReceiverCall) → ReceiverGoes r s cs → ReceiverGoes s t [] → ReceiverGoes r t cs
more_own r s t cs m n = record {
  own = m.own ++ n.own;
  are_own = all_then IsOfReceiver m.own n.own m.are_own n.are_own;
  left = n.left ∙ ap (hears_on n.own) m.left ∙ sym (hears_then (hears_on cs r) m.own n.own);
}

-- ---- a take

writes_by : (b : Bool) (r : Receiver) → ReceiverGoes r (if b then written r else r) (if b then Write ∷ [] else [])
writes_by true r = record { own = []; are_own = tt; left = refl }
writes_by false r = rests r

takes_on : (b : State) (share : ℕ) (held : Option ℕ)
    → ReceiverGoes b.rx (after_taking b share held).rx (receiver_calls b (Take share held))
unfolding after_taking
takes_on b share held = writes_by (writes_status b.rx share) b.rx

-- ---- a PDU arrives: what is ready goes up, one by one

hands_each : (sdus : List (List ℕ)) (r : Receiver) → r.out.ready ≡ sdus → ReceiverGoes r (all_handed r) []
hands_each [] r q =
    record { own = []; are_own = tt; left = subst (λ l. record r { out = record r.out { ready = l } } ≡ r) q refl }
hands_each (sdu ∷ sdus) r q =
    let one : ReceiverGoes r (taken r) [] = record { own = Up ∷ []; are_own = (tt, tt); left = refl } in
    more_own r (taken r) (all_handed r) [] one (hands_each sdus (taken r) (ap (λ (l : List (List ℕ)). drop 1 l) q))

arrives_by : (r : Result AcknowledgedPdu RlcRefusal) (b : State)
    → ReceiverGoes b.rx (arrived_left r b).rx (data_heard r)
arrives_by (Err fault) b = rests b.rx
arrives_by (Ok (Payload p)) b =
    let came : ReceiverGoes b.rx (arrived b.rx p) (Hears p ∷ []) = record { own = []; are_own = tt; left = refl } in
    more_own b.rx (arrived b.rx p) (all_handed (arrived b.rx p)) (Hears p ∷ []) came
    (hands_each (arrived b.rx p).out.ready (arrived b.rx p) refl)
arrives_by (Ok (StatusRead p)) b = rests b.rx

arrives_on : (b : State) (pdu : List ℕ) → ReceiverGoes b.rx (after_arrival b pdu).rx (data_heard (am_at pdu))
unfolding after_arrival
arrives_on b pdu = arrives_by (am_at pdu) b

-- ---- timers

clock_on : (clock : Clock) (b : State) → ReceiverGoes b.rx (clock_left clock b).rx []
clock_on Poll b = rests b.rx
clock_on Reorder b = record { own = ExpireReorder ∷ []; are_own = (tt, tt); left = refl }
clock_on Prohibit b = record { own = ExpireProhibit ∷ []; are_own = (tt, tt); left = refl }

expires_on : (b : State) (clock : Clock) → ReceiverGoes b.rx (after_expiry b clock).rx []
unfolding after_expiry
expires_on b clock = clock_on clock b

ended_on : (ended : Bool) (clock : Clock) (t : Ticking)
    → ReceiverGoes t.bearer.rx (expires_if ended clock t).bearer.rx []
ended_on true clock t = expires_on t.bearer clock
ended_on false clock t = rests t.bearer.rx

counts_on : (clock : Clock) (b : State) → ReceiverGoes b.rx (counts clock b).rx []
counts_on Poll b = rests b.rx
counts_on Reorder b = record { own = TickReorder ∷ []; are_own = (tt, tt); left = refl }
counts_on Prohibit b = record { own = TickProhibit ∷ []; are_own = (tt, tt); left = refl }

ticks_on : (clock : Clock) (t : Ticking) → ReceiverGoes t.bearer.rx (ticks clock t).bearer.rx []
ticks_on clock t =
    let n : Ticking = record t { bearer = counts clock t.bearer } in
    more_own t.bearer.rx n.bearer.rx (ticks clock t).bearer.rx [] (counts_on clock t.bearer)
    (ended_on (has_ended clock t.bearer) clock n)

ticked_on : (b : State) → ReceiverGoes b.rx (ticked b).bearer.rx []
unfolding ticked
ticked_on b =
    let t0 : Ticking = record { bearer = b; events = [] } in
    let t1 = ticks Poll t0 in
    let t2 = ticks Reorder t1 in
    let t3 = ticks Prohibit t2 in
    more_own b.rx t1.bearer.rx t3.bearer.rx [] (ticks_on Poll t0)
    (more_own t1.bearer.rx t2.bearer.rx t3.bearer.rx [] (ticks_on Reorder t1) (ticks_on Prohibit t2))

-- ---- any call

goes_to : (r : Receiver) (b d : State) (cs : List ReceiverCall) → Am b ≡ Am d → ReceiverGoes r b.rx cs
    → ReceiverGoes r d.rx cs
goes_to r b d cs q h = let same : b ≡ d = cc in subst (λ (x : State). ReceiverGoes r x.rx cs) same h

pub receiver_goes_on : (b d : State) (c : Call) → after (Am b) c ≡ Am d → ReceiverGoes b.rx d.rx (receiver_calls b c)
unfolding submitted taken_from flow_arrived expired flow_ticked with_discard
receiver_goes_on b d (Submit sdu) q =
    goes_to b.rx (record b { pdcp = record b.pdcp { tx = pdcp_submitted b.pdcp.tx sdu } }) d [] q (rests b.rx)
receiver_goes_on b d (Take share held) q =
    goes_to b.rx (after_taking b share held) d (receiver_calls b (Take share held)) q (takes_on b share held)
receiver_goes_on b d (Arrive pdu) q = goes_to b.rx (after_arrival b pdu) d (data_heard (am_at pdu)) q (arrives_on b pdu)
receiver_goes_on b d (Expire clock) q = goes_to b.rx (after_expiry b clock) d [] q (expires_on b clock)
receiver_goes_on b d Tick q = goes_to b.rx (ticked b).bearer d [] q (ticked_on b)
receiver_goes_on b d (SetDiscard ttis) q =
    goes_to b.rx (record b { pdcp = record b.pdcp { tx = record b.pdcp.tx { discard = Some ttis } } }) d [] q
    (rests b.rx)

-- ---- the next life

restart_rx : (b : State) (keys : Keys) → (am_restarted (am_stopped b) keys).rx ≡ fresh b.rx_config
unfolding am_restarted am_stopped
restart_rx b keys = refl

pub hears_anew : (b d : State) (keys : Keys) → goes (Am b) (Restart keys) ≡ Am d → d.rx ≡ fresh b.rx_config
unfolding stopped restarted
hears_anew b d keys q =
    let same : am_restarted (am_stopped b) keys ≡ d = cc in
    ap (λ (x : State). x.rx) (sym same) ∙ restart_rx b keys
