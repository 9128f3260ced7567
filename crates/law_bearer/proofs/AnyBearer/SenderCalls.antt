-- What each call of an acknowledged bearer is to RLC's sender.
use Rattle.std.proofs.Common.{◌≡◌, ℕ, Bool, true, false, nat_lt, List, [], ◌∷◌, ◌++◌, map, length, drop, Option, Some}
use Rattle.std.proofs.Common.{Result, Ok, Err, subst, refl, ap, sym, ◌∙◌}
use Rattle.std.specs.List.{AllByRecursion}
use Rattle.l2_types.specs.declared.Clock.{Clock}
use Rattle.l2_types.specs.declared.Clock.TheVariants.{Poll, Reorder, Prohibit}
use Rattle.pdcp_rx.specs.declared.Cause.TheVariants.{Arrived}
use Rattle.pdcp_tx.specs.State.{submitted as pdcp_submitted}
use Rattle.rlc_pdu.specs.declared.RlcRefusal.{RlcRefusal}
use Rattle.rlc_pdu.specs.Pdus.{AcknowledgedPdu, Payload, Status as StatusRead}
use Rattle.rlc_pdu.specs.Reading.{am_at}
use Rattle.rlc_am_rx.specs.Machine.{landed, turned, arrived}
use Rattle.rlc_am_tx.specs.declared.answers.Heard.{Heard}
use Rattle.rlc_am_tx.specs.declared.answers.Heard.TheVariants as heard_as
use Rattle.rlc_am_tx.specs.Machine.{State as Sender, heard, after_status, after_take, answer as rlc_answer, confirmed}
use Rattle.law_rlc.specs.AmSender.Run.{Call as SenderCall, Offer, Take as Taking, Status, Tick as Ticks}
use Rattle.law_rlc.specs.AmSender.Run.{Expire as Expires, Settle, Confirm, after as sender_after}
use Rattle.bearer_pdcp.specs.Hearing.{applies}
use Rattle.bearer_pdcp.specs.Discarding.{after_tick as after_discards, tick_told}
use Rattle.bearer_pdcp.specs.Telling.{landed_told, pdus_of}
use Rattle.bearer.specs.Acknowledged.State.{State, has_more, Work, work}
use Rattle.bearer.specs.Acknowledged.Taking.{feeding, data_size, after_taking, answer as am_answer, pdus as am_pdus}
use Rattle.bearer.specs.Acknowledged.Taking.{status_pdus}
use Rattle.bearer.specs.Acknowledged.Hearing.{settled_if, heard_work, hears, hears_all, confirms, status_work}
use Rattle.bearer.specs.Acknowledged.Hearing.{arrived_left, after_arrival, all_confirmed}
use Rattle.bearer.specs.Acknowledged.Timing.{Ticking, expires_if, clock_left, counts, has_ended, ticks, discards}
use Rattle.bearer.specs.Acknowledged.Timing.{after_expiry, ticked}
use Rattle.bearer.specs.declared.flow.Flow.TheVariants.{Am}
use Rattle.bearer.specs.Submitting.{submitted}
use Rattle.bearer.specs.Taking.{after as taken_from, pdus}
use Rattle.bearer.specs.Hearing.{arrived as flow_arrived, expired, ticked as flow_ticked, with_discard}
use Rattle.law_bearer.specs.AnyBearer.Calls.{Call, Submit, Take, Arrive, Expire, Tick, SetDiscard, after}
use Rattle.law_bearer.specs.AnyBearer.Stream.{am_offered}
use Rattle.law_bearer.specs.AnyBearer.Sending.{sends_on}
use Rattle.law_bearer.specs.AnyBearer.Acknowledged.{offers_in, offered_to, data_given, status_heard, sender_calls}
use Rattle.law_bearer.specs.AnyBearer.Acknowledged.{IsOfSender, SenderGoes}
use Rattle.law_bearer.proofs.AnyBearer.Flows.{is_offered}

-- ---- calls one behind the other

pub all_then : {A : Type 0} (P : A → Type 0) (xs ys : List A) → AllByRecursion P xs → AllByRecursion P ys
    → AllByRecursion P (xs ++ ys)
all_then P [] ys h k = k
all_then P (x ∷ xs) ys h k = (h.0, all_then P xs ys h.1 k)

pub sends_then : (s : Sender) (cs ds : List SenderCall) → sends_on (cs ++ ds) s ≡ sends_on ds (sends_on cs s)
sends_then s [] ds = refl
sends_then s (c ∷ cs) ds = sends_then (sender_after s c) cs ds

rests : (s : Sender) → SenderGoes s s []
rests s = record { own = []; are_own = tt; left = refl }

more_own : (s t u : Sender) (cs : List SenderCall) → SenderGoes s t cs → SenderGoes t u [] → SenderGoes s u cs
more_own s t u cs m n = record {
  own = m.own ++ n.own;
  are_own = all_then IsOfSender m.own n.own m.are_own n.are_own;
  left = n.left ∙ ap (sends_on n.own) m.left ∙ sym (sends_then (sends_on cs s) m.own n.own);
}

-- ---- a take

offers_all : (sdus : List (List ℕ)) (s : Sender) → am_offered sdus s ≡ sends_on (map (λ sdu. Offer sdu) sdus) s
offers_all [] s = refl
offers_all (sdu ∷ sdus) s = offers_all sdus (sender_after s (Offer sdu))

fed_is : (b : State) (share : ℕ) (held : Option ℕ) → (feeding b share held).tx ≡ offered_to b share held
fed_is b share held = is_offered (Am b) share held ∙ offers_all (offers_in b share held) b.tx

pub takes_on : (b : State) (share : ℕ) (held : Option ℕ)
    → SenderGoes b.tx (after_taking b share held).tx (sender_calls b (Take share held))
unfolding after_taking
takes_on b share held =
    let w = feeding b share held in
    let size = data_size b share in
    let offers : List SenderCall = map (λ sdu. Offer sdu) (offers_in b share held) in
    let last : List SenderCall = Taking size held (has_more w.pdcp) ∷ [] in
    record {
      own = [];
      are_own = tt;
      left = ap (λ (s : Sender). after_take s size held (has_more w.pdcp)) (fed_is b share held)
          ∙ sym (sends_then b.tx offers last);
    }

pub answers_given : (b : State) (share : ℕ) (held : Option ℕ) → am_answer b share held ≡ data_given b share held
unfolding am_answer after_taking
answers_given b share held =
    ap (λ (s : Sender). rlc_answer s (data_size b share) held (has_more (feeding b share held).pdcp))
    (fed_is b share held)

pub writes_what_rlc_gives : (b : State) (share : ℕ) (held : Option ℕ)
    → pdus (Am b) share held ≡ status_pdus b.rx share ++ pdus_of (data_given b share held)
unfolding pdus am_pdus
writes_what_rlc_gives b share held = ap (λ t. status_pdus b.rx share ++ pdus_of t) (answers_given b share held)

-- ---- a PDU arrives

settles : (b : Bool) (w : Work) → SenderGoes w.tx (settled_if b w).tx []
settles true w = record { own = Settle (has_more w.pdcp) ∷ []; are_own = (tt, tt); left = refl }
settles false w = rests w.tx

hears_each : (sdus : List (List ℕ)) (w : Work) → SenderGoes w.tx (hears_all sdus w).tx []
hears_each [] w = rests w.tx
hears_each (sdu ∷ sdus) w =
    more_own w.tx (hears sdu w).tx (hears_all sdus (hears sdu w)).tx []
    (settles (applies sdu Arrived w.pdcp) (heard_work sdu w)) (hears_each sdus (hears sdu w))

confirms_each : (news : List ℕ) (s : Sender) → s.accounts.news ≡ news → SenderGoes s (all_confirmed s) []
confirms_each [] s q =
    record {
      own = [];
      are_own = tt;
      left = subst (λ l. record s { accounts = record s.accounts { news = l } } ≡ s) q refl;
    }
confirms_each (place ∷ news) s q =
    let one : SenderGoes s (confirmed s) [] = record { own = Confirm ∷ []; are_own = (tt, tt); left = refl } in
    more_own s (confirmed s) (all_confirmed s) [] one
    (confirms_each news (confirmed s) (ap (λ (l : List ℕ). drop 1 l) q))

status_on : (h : Heard) (w : Work) → SenderGoes w.tx (status_work h w).tx []
status_on heard_as.Ignored w = rests w.tx
status_on (heard_as.Limit sn) w = rests w.tx
status_on (heard_as.Applied stopped) w = record { own = Settle (has_more w.pdcp) ∷ []; are_own = (tt, tt); left = refl }

arrives_by : (r : Result AcknowledgedPdu RlcRefusal) (b : State)
    → SenderGoes b.tx (arrived_left r b).tx (status_heard r)
arrives_by (Err fault) b = rests b.tx
arrives_by (Ok (Payload p)) b =
    hears_each (arrived b.rx p).out.ready (work b.pdcp b.tx (landed_told b.pdcp.lcid (landed b.rx p) (turned b.rx p)))
arrives_by (Ok (StatusRead p)) b =
    let s : Sender = after_status b.tx p in
    let w : Work = work (confirms s.accounts.news b.pdcp) (all_confirmed s) [] in
    let read : SenderGoes b.tx s (Status p ∷ []) = record { own = []; are_own = tt; left = refl } in
    more_own b.tx (all_confirmed s) (status_work (heard b.tx p) w).tx (Status p ∷ [])
    (more_own b.tx s (all_confirmed s) (Status p ∷ []) read (confirms_each s.accounts.news s refl))
    (status_on (heard b.tx p) w)

arrives_on : (b : State) (pdu : List ℕ) → SenderGoes b.tx (after_arrival b pdu).tx (status_heard (am_at pdu))
unfolding after_arrival
arrives_on b pdu = arrives_by (am_at pdu) b

-- ---- timers

clock_on : (clock : Clock) (b : State) → SenderGoes b.tx (clock_left clock b).tx []
clock_on Poll b = record { own = Expires (has_more b.pdcp) ∷ []; are_own = (tt, tt); left = refl }
clock_on Reorder b = rests b.tx
clock_on Prohibit b = rests b.tx

expires_on : (b : State) (clock : Clock) → SenderGoes b.tx (after_expiry b clock).tx []
unfolding after_expiry
expires_on b clock = clock_on clock b

ended_on : (ended : Bool) (clock : Clock) (t : Ticking) → SenderGoes t.bearer.tx (expires_if ended clock t).bearer.tx []
ended_on true clock t = expires_on t.bearer clock
ended_on false clock t = rests t.bearer.tx

counts_on : (clock : Clock) (b : State) → SenderGoes b.tx (counts clock b).tx []
counts_on Poll b = record { own = Ticks ∷ []; are_own = (tt, tt); left = refl }
counts_on Reorder b = rests b.tx
counts_on Prohibit b = rests b.tx

ticks_on : (clock : Clock) (t : Ticking) → SenderGoes t.bearer.tx (ticks clock t).bearer.tx []
ticks_on clock t =
    let n : Ticking = record t { bearer = counts clock t.bearer } in
    more_own t.bearer.tx n.bearer.tx (ticks clock t).bearer.tx [] (counts_on clock t.bearer)
    (ended_on (has_ended clock t.bearer) clock n)

ticked_on : (b : State) → SenderGoes b.tx (ticked b).bearer.tx []
unfolding ticked
ticked_on b =
    let t0 : Ticking = record { bearer = b; events = [] } in
    let t1 = ticks Poll t0 in
    let t2 = ticks Reorder t1 in
    let t3 = ticks Prohibit t2 in
    let told = tick_told t3.bearer.pdcp in
    more_own b.tx t1.bearer.tx (discards t3).bearer.tx [] (ticks_on Poll t0)
    (more_own t1.bearer.tx t2.bearer.tx (discards t3).bearer.tx [] (ticks_on Reorder t1)
    (more_own t2.bearer.tx t3.bearer.tx (discards t3).bearer.tx [] (ticks_on Prohibit t2)
    (settles (nat_lt 0 (length told)) (work (after_discards t3.bearer.pdcp) t3.bearer.tx (t3.events ++ told)))))

-- ---- any call

goes_to : (s : Sender) (b d : State) (cs : List SenderCall) → Am b ≡ Am d → SenderGoes s b.tx cs → SenderGoes s d.tx cs
goes_to s b d cs q h = let same : b ≡ d = cc in subst (λ (x : State). SenderGoes s x.tx cs) same h

pub sender_goes_on : (b d : State) (c : Call) → after (Am b) c ≡ Am d → SenderGoes b.tx d.tx (sender_calls b c)
unfolding submitted taken_from flow_arrived expired flow_ticked with_discard
sender_goes_on b d (Submit sdu) q =
    goes_to b.tx (record b { pdcp = record b.pdcp { tx = pdcp_submitted b.pdcp.tx sdu } }) d [] q (rests b.tx)
sender_goes_on b d (Take share held) q =
    goes_to b.tx (after_taking b share held) d (sender_calls b (Take share held)) q (takes_on b share held)
sender_goes_on b d (Arrive pdu) q = goes_to b.tx (after_arrival b pdu) d (status_heard (am_at pdu)) q (arrives_on b pdu)
sender_goes_on b d (Expire clock) q = goes_to b.tx (after_expiry b clock) d [] q (expires_on b clock)
sender_goes_on b d Tick q = goes_to b.tx (ticked b).bearer d [] q (ticked_on b)
sender_goes_on b d (SetDiscard ttis) q =
    goes_to b.tx (record b { pdcp = record b.pdcp { tx = record b.pdcp.tx { discard = Some ttis } } }) d [] q
    (rests b.tx)
