-- RLC's sender of an acknowledged bearer goes by calls of its own.
use Rattle.std.proofs.Common.{◌≡◌, ℕ, Bool, true, false, nat_lt, List, [], ◌∷◌, ◌++◌, map, length, drop, Option, Some}
use Rattle.std.proofs.Common.{Result, Ok, Err, subst, refl, ap, sym, ◌∙◌}
use Rattle.std.proofs.lemmas.List.{append-nil}
use Rattle.eps_sec.specs.declared.Keys.{Keys}
use Rattle.l2_types.specs.declared.Clock.{Clock}
use Rattle.l2_types.specs.declared.Clock.TheVariants.{Poll, Reorder, Prohibit}
use Rattle.pdcp_rx.specs.declared.Cause.TheVariants.{Arrived}
use Rattle.pdcp_tx.specs.State.{submitted as pdcp_submitted}
use Rattle.rlc_pdu.specs.declared.RlcRefusal.{RlcRefusal}
use Rattle.rlc_pdu.specs.Pdus.{AcknowledgedPdu, Payload, Status as StatusRead}
use Rattle.rlc_pdu.specs.Reading.{am_at}
use Rattle.rlc_am_rx.specs.Machine.{landed, turned, arrived}
use Rattle.rlc_am_tx.specs.declared.answers.Heard.{Heard}
use Rattle.rlc_am_tx.specs.declared.answers.Heard.TheVariants as heard_as
use Rattle.rlc_am_tx.specs.Machine.{State as Sender, start, heard, after_status, after_take, confirmed}
use Rattle.law_rlc.specs.AmSender.Run.{Call as SenderCall, Offer, Take as Taking, Status, Tick as Ticks}
use Rattle.law_rlc.specs.AmSender.Run.{Expire as Expires, Settle, Confirm, after as sender_after}
use Rattle.bearer_pdcp.specs.Hearing.{applies}
use Rattle.bearer_pdcp.specs.Discarding.{after_tick as after_discards, tick_told}
use Rattle.bearer_pdcp.specs.Telling.{landed_told}
use Rattle.bearer.specs.Acknowledged.State.{State, has_more, Work, work}
use Rattle.bearer.specs.Acknowledged.Taking.{feeding, data_size, after_taking}
use Rattle.bearer.specs.Acknowledged.Hearing.{settled_if, heard_work, hears, hears_all, confirms, status_work}
use Rattle.bearer.specs.Acknowledged.Hearing.{arrived_left, after_arrival, all_confirmed}
use Rattle.bearer.specs.Acknowledged.Timing.{Ticking, expires_if, clock_left, counts, has_ended, ticks, discards}
use Rattle.bearer.specs.Acknowledged.Timing.{after_expiry, ticked}
use Rattle.bearer.specs.Acknowledged.Lives.{stopped as am_stopped, restarted as am_restarted}
use Rattle.bearer.specs.declared.flow.Flow.{Flow}
use Rattle.bearer.specs.declared.flow.Flow.TheVariants.{Am}
use Rattle.bearer.specs.Submitting.{submitted}
use Rattle.bearer.specs.Taking.{after as taken_from}
use Rattle.bearer.specs.Hearing.{arrived as flow_arrived, expired, ticked as flow_ticked, with_discard}
use Rattle.bearer.specs.Lives.{stopped, restarted}
use Rattle.law_bearer.specs.AnyBearer.Calls.{Call, Submit, Take, Arrive, Expire, Tick, SetDiscard, after, after_all}
use Rattle.law_bearer.specs.AnyBearer.Calls.{Restart, goes, ends}
use Rattle.law_bearer.specs.AnyBearer.Stream.{takes, pdus_of, pdu_of, stream, am_offered}
use Rattle.law_bearer.specs.AnyBearer.Sending.{sends_on, offered_by, ComesBy}
use Rattle.law_bearer.proofs.AnyBearer.Flows.{is_offered}

-- ---- calls of a sender, one behind the other

on_then : (s : Sender) (cs ds : List SenderCall) → sends_on (cs ++ ds) s ≡ sends_on ds (sends_on cs s)
on_then s [] ds = refl
on_then s (c ∷ cs) ds = on_then (sender_after s c) cs ds

offered_then : (cs ds : List SenderCall) → offered_by (cs ++ ds) ≡ offered_by cs ++ offered_by ds
offered_then [] ds = refl
offered_then (Offer sdu ∷ cs) ds = ap (λ l. sdu ∷ l) (offered_then cs ds)
offered_then (Taking size held more ∷ cs) ds = offered_then cs ds
offered_then (Status status ∷ cs) ds = offered_then cs ds
offered_then (Ticks ∷ cs) ds = offered_then cs ds
offered_then (Expires more ∷ cs) ds = offered_then cs ds
offered_then (Settle more ∷ cs) ds = offered_then cs ds
offered_then (Confirm ∷ cs) ds = offered_then cs ds

comes_then : (s t u : Sender) (a b : List (List ℕ)) → ComesBy s t a → ComesBy t u b → ComesBy s u (a ++ b)
comes_then s t u a b m n = record {
  calls = m.calls ++ n.calls;
  offers = offered_then m.calls n.calls ∙ ap (λ l. l ++ offered_by n.calls) m.offers ∙ ap (λ l. a ++ l) n.offers;
  left = n.left ∙ ap (sends_on n.calls) m.left ∙ sym (on_then s m.calls n.calls);
}

rests : (s : Sender) → ComesBy s s []
rests s = record { calls = []; offers = refl; left = refl }

offers_all : (sdus : List (List ℕ)) (s : Sender) → ComesBy s (am_offered sdus s) sdus
offers_all [] s = rests s
offers_all (sdu ∷ sdus) s =
    let one : ComesBy s (sender_after s (Offer sdu)) (sdu ∷ []) =
    record { calls = Offer sdu ∷ []; offers = refl; left = refl } in
    comes_then s (sender_after s (Offer sdu)) (am_offered (sdu ∷ sdus) s) (sdu ∷ []) sdus one
    (offers_all sdus (sender_after s (Offer sdu)))

-- ---- a take

took_on : (b : State) (share : ℕ) (held : Option ℕ) (pdus : List (List ℕ))
    → ComesBy b.tx (feeding b share held).tx pdus → ComesBy b.tx (after_taking b share held).tx pdus
unfolding after_taking
took_on b share held pdus fed =
    let w = feeding b share held in
    let size = data_size b share in
    let last : ComesBy w.tx (after_take w.tx size held (has_more w.pdcp)) [] =
    record { calls = Taking size held (has_more w.pdcp) ∷ []; offers = refl; left = refl } in
    subst (ComesBy b.tx (after_take w.tx size held (has_more w.pdcp))) (append-nil pdus)
    (comes_then b.tx w.tx (after_take w.tx size held (has_more w.pdcp)) pdus [] fed last)

takes_on : (b : State) (share : ℕ) (held : Option ℕ)
    → ComesBy b.tx (after_taking b share held).tx (map (pdu_of b.pdcp.tx) (takes (Am b) (Take share held)))
takes_on b share held =
    let pdus = map (pdu_of b.pdcp.tx) (takes (Am b) (Take share held)) in
    took_on b share held pdus
    (subst (λ (s : Sender). ComesBy b.tx s pdus) (sym (is_offered (Am b) share held)) (offers_all pdus b.tx))

-- ---- a PDU arrives

settles : (b : Bool) (w : Work) → ComesBy w.tx (settled_if b w).tx []
settles true w = record { calls = Settle (has_more w.pdcp) ∷ []; offers = refl; left = refl }
settles false w = rests w.tx

hears_on : (sdus : List (List ℕ)) (w : Work) → ComesBy w.tx (hears_all sdus w).tx []
hears_on [] w = rests w.tx
hears_on (sdu ∷ sdus) w =
    comes_then w.tx (hears sdu w).tx (hears_all sdus (hears sdu w)).tx [] []
    (settles (applies sdu Arrived w.pdcp) (heard_work sdu w)) (hears_on sdus (hears sdu w))

confirms_on : (news : List ℕ) (s : Sender) → s.accounts.news ≡ news → ComesBy s (all_confirmed s) []
confirms_on [] s q =
    record {
      calls = [];
      offers = refl;
      left = subst (λ l. record s { accounts = record s.accounts { news = l } } ≡ s) q refl;
    }
confirms_on (place ∷ news) s q =
    let one : ComesBy s (confirmed s) [] = record { calls = Confirm ∷ []; offers = refl; left = refl } in
    comes_then s (confirmed s) (all_confirmed s) [] [] one
    (confirms_on news (confirmed s) (ap (λ (l : List ℕ). drop 1 l) q))

status_on : (h : Heard) (w : Work) → ComesBy w.tx (status_work h w).tx []
status_on heard_as.Ignored w = rests w.tx
status_on (heard_as.Limit sn) w = rests w.tx
status_on (heard_as.Applied stopped) w = record { calls = Settle (has_more w.pdcp) ∷ []; offers = refl; left = refl }

arrives_by : (r : Result AcknowledgedPdu RlcRefusal) (b : State) → ComesBy b.tx (arrived_left r b).tx []
arrives_by (Err fault) b = rests b.tx
arrives_by (Ok (Payload p)) b =
    hears_on (arrived b.rx p).out.ready (work b.pdcp b.tx (landed_told b.pdcp.lcid (landed b.rx p) (turned b.rx p)))
arrives_by (Ok (StatusRead p)) b =
    let s : Sender = after_status b.tx p in
    let w : Work = work (confirms s.accounts.news b.pdcp) (all_confirmed s) [] in
    let read : ComesBy b.tx s [] = record { calls = Status p ∷ []; offers = refl; left = refl } in
    comes_then b.tx (all_confirmed s) (status_work (heard b.tx p) w).tx [] []
    (comes_then b.tx s (all_confirmed s) [] [] read (confirms_on s.accounts.news s refl))
    (status_on (heard b.tx p) w)

arrives_on : (b : State) (pdu : List ℕ) → ComesBy b.tx (after_arrival b pdu).tx []
unfolding after_arrival
arrives_on b pdu = arrives_by (am_at pdu) b

-- ---- timers

clock_on : (clock : Clock) (b : State) → ComesBy b.tx (clock_left clock b).tx []
clock_on Poll b = record { calls = Expires (has_more b.pdcp) ∷ []; offers = refl; left = refl }
clock_on Reorder b = rests b.tx
clock_on Prohibit b = rests b.tx

expires_on : (b : State) (clock : Clock) → ComesBy b.tx (after_expiry b clock).tx []
unfolding after_expiry
expires_on b clock = clock_on clock b

ended_on : (ended : Bool) (clock : Clock) (t : Ticking) → ComesBy t.bearer.tx (expires_if ended clock t).bearer.tx []
ended_on true clock t = expires_on t.bearer clock
ended_on false clock t = rests t.bearer.tx

counts_on : (clock : Clock) (b : State) → ComesBy b.tx (counts clock b).tx []
counts_on Poll b = record { calls = Ticks ∷ []; offers = refl; left = refl }
counts_on Reorder b = rests b.tx
counts_on Prohibit b = rests b.tx

ticks_on : (clock : Clock) (t : Ticking) → ComesBy t.bearer.tx (ticks clock t).bearer.tx []
ticks_on clock t =
    let n : Ticking = record t { bearer = counts clock t.bearer } in
    comes_then t.bearer.tx n.bearer.tx (ticks clock t).bearer.tx [] [] (counts_on clock t.bearer)
    (ended_on (has_ended clock t.bearer) clock n)

ticked_on : (b : State) → ComesBy b.tx (ticked b).bearer.tx []
unfolding ticked
ticked_on b =
    let t0 : Ticking = record { bearer = b; events = [] } in
    let t1 = ticks Poll t0 in
    let t2 = ticks Reorder t1 in
    let t3 = ticks Prohibit t2 in
    let told = tick_told t3.bearer.pdcp in
    comes_then b.tx t1.bearer.tx (discards t3).bearer.tx [] [] (ticks_on Poll t0)
    (comes_then t1.bearer.tx t2.bearer.tx (discards t3).bearer.tx [] [] (ticks_on Reorder t1)
    (comes_then t2.bearer.tx t3.bearer.tx (discards t3).bearer.tx [] [] (ticks_on Prohibit t2)
    (settles (nat_lt 0 (length told)) (work (after_discards t3.bearer.pdcp) t3.bearer.tx (t3.events ++ told)))))

-- ---- any call

-- the bearer behind a call
record Goes (b : State) (f : Flow) (pdus : List (List ℕ)) : Type 0 where
  next : State
  is : f ≡ Am next
  comes : ComesBy b.tx next.tx pdus

one_call : (b : State) (c : Call) → Goes b (after (Am b) c) (pdus_of (ends (Am b)) (takes (Am b) c))
unfolding submitted taken_from flow_arrived expired flow_ticked with_discard
one_call b (Submit sdu) = record {
  next = record b { pdcp = record b.pdcp { tx = pdcp_submitted b.pdcp.tx sdu } };
  is = refl;
  comes = rests b.tx;
}
one_call b (Take share held) = record { next = after_taking b share held; is = refl; comes = takes_on b share held }
one_call b (Arrive pdu) = record { next = after_arrival b pdu; is = refl; comes = arrives_on b pdu }
one_call b (Expire clock) = record { next = after_expiry b clock; is = refl; comes = expires_on b clock }
one_call b Tick = record { next = (ticked b).bearer; is = refl; comes = ticked_on b }
one_call b (SetDiscard ttis) =
    record {
      next = record b { pdcp = record b.pdcp { tx = record b.pdcp.tx { discard = Some ttis } } };
      is = refl;
      comes = rests b.tx;
    }

pub offers_the_stream : (b d : State) (cs : List Call) → after_all (Am b) cs ≡ Am d
    → ComesBy b.tx d.tx (stream (Am b) cs)
offers_the_stream b d [] q =
    let same : b ≡ d = cc in
    subst (λ (x : State). ComesBy b.tx x.tx []) same (rests b.tx)
offers_the_stream b d (c ∷ cs) q =
    let one = one_call b c in
    let rest : ComesBy one.next.tx d.tx (stream (Am one.next) cs) =
    offers_the_stream one.next d cs (ap (λ f. after_all f cs) (sym one.is) ∙ q) in
    subst (λ f. ComesBy b.tx d.tx (pdus_of (ends (Am b)) (takes (Am b) c) ++ stream f cs)) (sym one.is)
    (comes_then b.tx one.next.tx d.tx (pdus_of (ends (Am b)) (takes (Am b) c)) (stream (Am one.next) cs) one.comes rest)

-- ---- the next life

restart_tx : (b : State) (keys : Keys) → (am_restarted (am_stopped b) keys).tx ≡ start b.tx_config
unfolding am_restarted am_stopped
restart_tx b keys = refl

pub begins_anew : (b d : State) (keys : Keys) → goes (Am b) (Restart keys) ≡ Am d → d.tx ≡ start b.tx_config
unfolding stopped restarted
begins_anew b d keys q =
    let same : am_restarted (am_stopped b) keys ≡ d = cc in
    ap (λ (x : State). x.tx) (sym same) ∙ restart_tx b keys
