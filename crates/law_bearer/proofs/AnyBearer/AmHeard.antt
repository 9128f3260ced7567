-- In which order an acknowledged bearer tells of what it hears, of its timers, and of the end of its life.
use Rattle.std.proofs.Common.{◌≡◌, inl, inr, ℕ, nat_lt, Bool, true, false, not, if◌then◌else◌, Option, Some, None}
use Rattle.std.proofs.Common.{IfSome, Result, Ok, Err, List, [], ◌∷◌, ◌++◌, length, map, append-nil, append_assoc, refl}
use Rattle.std.proofs.Common.{ap, sym, ◌∙◌, subst}
use Rattle.bearer.specs.Acknowledged.Hearing.{confirms, all_confirmed, started_told, settled_if, heard_work, hears}
use Rattle.bearer.specs.Acknowledged.Hearing.{hears_all, stopped_told, status_work, arrived_told, arriving}
use Rattle.bearer.specs.Acknowledged.Lives.{Ending, hears_last, ends_with, stopping}
use Rattle.bearer.specs.Acknowledged.State.{State, Work, work, has_more}
use Rattle.bearer.specs.Acknowledged.Timing.{poll_told, timer_told, clock_told, expiry, clock_left, after_expiry}
use Rattle.bearer.specs.Acknowledged.Timing.{Ticking, told_of, expires_if, ticks, counts, has_ended, discards, ticked}
use Rattle.bearer_pdcp.specs.Discarding.{tick_told, after_tick}
use Rattle.bearer_pdcp.specs.Ends.{Ends}
use Rattle.bearer_pdcp.specs.Hearing.{heard_told, applies}
use Rattle.bearer_pdcp.specs.Telling.{turned_told, landed_told}
use Rattle.bearer_types.specs.declared.Event.{Event}
use Rattle.bearer_types.specs.declared.Event.TheVariants as events
use Rattle.l2_types.specs.declared.Clock.{Clock}
use Rattle.l2_types.specs.declared.Clock.TheVariants.{Poll, Reorder, Prohibit}
use Rattle.l2_types.specs.declared.Lost.TheVariants as lost
use Rattle.pdcp_pdu.specs.Kinds.{is_am}
use Rattle.pdcp_rx.specs.declared.Cause.TheVariants.{Arrived, Reestablished}
use Rattle.rlc_am_rx.specs.State.{State as Receiver}
use Rattle.rlc_am_rx.specs.Machine.{reorder_answer, landed, turned, arrived, after_landing, finished}
use Rattle.rlc_am_rx.specs.Status.{is_running}
use Rattle.rlc_am_tx.specs.declared.answers.Heard.{Heard as HeardStatus}
use Rattle.rlc_am_tx.specs.declared.answers.Heard.TheVariants as heard_as
use Rattle.rlc_am_tx.specs.declared.answers.PollExpired.{PollExpired}
use Rattle.rlc_am_tx.specs.declared.answers.PollExpired.TheVariants as polls
use Rattle.rlc_am_tx.specs.Machine.{State as Sender, expiry as poll_expiry, settles, heard as heard_by_sender}
use Rattle.rlc_am_tx.specs.Machine.{after_status}
use Rattle.rlc_pdu.specs.declared.Expired.{Expired}
use Rattle.rlc_pdu.specs.declared.Expired.TheVariants.{Done, NotRunning}
use Rattle.rlc_pdu.specs.declared.Landed.{Landed}
use Rattle.rlc_pdu.specs.declared.Landed.TheVariants.{Kept, Repeat, Outside, Clash}
use Rattle.rlc_pdu.specs.declared.Turned.{Turned}
use Rattle.rlc_pdu.specs.declared.RlcRefusal.{RlcRefusal}
use Rattle.rlc_pdu.specs.Pdus.{AmdPdu, AcknowledgedPdu, Payload, Status}
use Rattle.rlc_pdu.specs.Reading.{am_at}
use Rattle.law_words.specs.BearerOrder.{OfEvents, an_up, of_an_sdu, of_an_arrived_sdu, of_a_data_pdu, of_a_status}
use Rattle.law_words.specs.BearerOrder.{of_a_pdu, of_an_expiry, of_discards, in_a_tti, at_the_end}
use Rattle.law_words.specs.Sequences.{just, ◌then◌, maybe, many}
use Rattle.law_bearer.proofs.AnyBearer.Sequences.{both, many_none, many_more, Behind, behind, behind_none, behind_then}
use Rattle.law_bearer.proofs.AnyBearer.Sequences.{behind_many, behind_nothing}
use Rattle.law_bearer.proofs.AnyBearer.Heard.{heard_own, maybe_if, as_of, heard_in, applies_none, IsSome, tick_in}
use Rattle.law_bearer.proofs.AnyBearer.Heard.{some_in, discards_in, IsDropped, kept_in}

-- ---- SDUs that RLC hands up

start_in : (l m : ℕ) (b : Bool) → m ≡ l → of_an_arrived_sdu l (started_told m b)
start_in l m true q = inr (ap (λ (n : ℕ). events.Start n Poll ∷ []) q)
start_in l m false q = inl (inl (many_none (an_up l)))

one_in : (l : ℕ) (sdu : List ℕ) (w : Work) (b : Bool) → applies sdu Arrived w.pdcp ≡ b → w.pdcp.lcid ≡ l
    → Behind w.events (of_an_arrived_sdu l) (settled_if b (heard_work sdu w)).events
one_in l sdu w true e q =
    let told = heard_told sdu Arrived w.pdcp in
    let v = heard_work sdu w in
    let started = started_told v.pdcp.lcid (settles v.tx (has_more v.pdcp)) in
    record {
      rest = started;
      all_are = ap (λ (es : List Event). (w.events ++ es) ++ started) (applies_none sdu Arrived w.pdcp e)
          ∙ ap (λ (es : List Event). es ++ started) (append-nil w.events);
      is_rest = start_in l v.pdcp.lcid (settles v.tx (has_more v.pdcp)) (heard_own sdu Arrived w.pdcp ∙ q);
    }
one_in l sdu w false e q =
    behind w.events (of_an_arrived_sdu l) (heard_told sdu Arrived w.pdcp) (inl (heard_in l sdu Arrived w.pdcp q))

pub settled_kept : (l : ℕ) (b : Bool) (w : Work) → w.pdcp.lcid ≡ l → (settled_if b w).pdcp.lcid ≡ l
settled_kept l true w q = q
settled_kept l false w q = q

all_in : (l : ℕ) (sdus : List (List ℕ)) (w : Work) → w.pdcp.lcid ≡ l
    → Behind w.events (many (of_an_arrived_sdu l)) (hears_all sdus w).events
all_in l [] w q = behind_none w.events (many (of_an_arrived_sdu l)) (many_none (of_an_arrived_sdu l))
all_in l (sdu ∷ sdus) w q =
    let b = applies sdu Arrived w.pdcp in
    behind_many w.events (hears sdu w).events (of_an_arrived_sdu l) (hears_all (sdu ∷ sdus) w).events
    (one_in l sdu w b refl q)
    (all_in l sdus (hears sdu w) (settled_kept l b (heard_work sdu w) (heard_own sdu Arrived w.pdcp ∙ q)))

pub all_kept : (l : ℕ) (sdus : List (List ℕ)) (w : Work) → w.pdcp.lcid ≡ l → (hears_all sdus w).pdcp.lcid ≡ l
all_kept l [] w q = q
all_kept l (sdu ∷ sdus) w q =
    all_kept l sdus (hears sdu w)
    (settled_kept l (applies sdu Arrived w.pdcp) (heard_work sdu w) (heard_own sdu Arrived w.pdcp ∙ q))

-- ---- a PDU

landed_in : (l : ℕ) (landed' : Landed) (t : Turned) (ready : List (List ℕ)) (pdcp : Ends) (tx : Sender)
    → pdcp.lcid ≡ l → (IsDropped landed' → ready ≡ [])
    → of_a_data_pdu l (hears_all ready (work pdcp tx (landed_told l landed' t))).events
landed_in l Kept t ready pdcp tx q none' = kept_in l t _ (all_in l ready (work pdcp tx (turned_told l t)) q)
landed_in l Repeat t ready pdcp tx q none' = rw (none' tt) (inl refl)
landed_in l Outside t ready pdcp tx q none' = rw (none' tt) (inr (inl refl))
landed_in l Clash t ready pdcp tx q none' = rw (none' tt) (inr (inr (inl refl)))

ready_by : (landed' : Landed) (r : Receiver) (p : AmdPdu) → r.out.ready ≡ [] → IsDropped landed'
    → (after_landing landed' r p).out.ready ≡ []
ready_by Kept r p e d = absurd d
ready_by Repeat r p e d = e
ready_by Outside r p e d = e
ready_by Clash r p e d = e

pub confirms_kept : (l : ℕ) (places : List ℕ) (e : Ends) → e.lcid ≡ l → (confirms places e).lcid ≡ l
confirms_kept l [] e q = q
confirms_kept l (place ∷ places) e q = confirms_kept l places _ q

status_in : (h : HeardStatus) (pdcp : Ends) (tx : Sender)
    → of_a_status pdcp.lcid (status_work h (work pdcp tx [])).events
status_in heard_as.Ignored pdcp tx = inl refl
status_in (heard_as.Limit sn) pdcp tx = inr (inl (sn, refl))
status_in (heard_as.Applied stopped) pdcp tx =
    let l = pdcp.lcid in
    let starts = settles tx (has_more pdcp) in
    inr
    (inr (both (maybe (just (events.Stop l Poll))) (maybe (just (events.Start l Poll))) (stopped_told l stopped)
    (started_told l starts) (maybe_if stopped (events.Stop l Poll)) (maybe_if starts (events.Start l Poll))))

arrived_in : (l : ℕ) (r : Result AcknowledgedPdu RlcRefusal) (s : State) → s.pdcp.lcid ≡ l → s.rx.out.ready ≡ []
    → of_a_pdu l (arrived_told r s)
arrived_in l (Err fault) s q e = inl (fault, ap (λ (n : ℕ). events.BadRlc n fault ∷ []) q)
arrived_in l (Ok (Payload p)) s q e =
    inr
    (inl
    (subst
    (λ (n : ℕ). of_a_data_pdu l
    (hears_all (arrived s.rx p).out.ready
    (work s.pdcp s.tx (landed_told n (landed s.rx p) (turned s.rx p)))).events) (sym q)
    (landed_in l (landed s.rx p) (turned s.rx p) (arrived s.rx p).out.ready s.pdcp s.tx q
    (ready_by (landed s.rx p) s.rx p e))))
arrived_in l (Ok (Status p)) s q e =
    let news = (after_status s.tx p).accounts.news in
    inr
    (inr (as_of of_a_status (confirms news s.pdcp).lcid l _ (confirms_kept l news s.pdcp q)
    (status_in (heard_by_sender s.tx p) (confirms news s.pdcp) (all_confirmed (after_status s.tx p)))))

pub arriving_in : (l : ℕ) (s : State) (pdu : List ℕ) → s.pdcp.lcid ≡ l → s.rx.out.ready ≡ []
    → of_a_pdu l (arriving s pdu)
unfolding arriving
arriving_in l s pdu q e = arrived_in l (am_at pdu) s q e

-- ---- an expiry

poll_in : (l : ℕ) (x : PollExpired) → IfSome (poll_told l x) (of_an_expiry l Poll)
poll_in l polls.NotRunning = tt
poll_in l polls.Done = record {
  first = events.Expired l Poll ∷ [];
  second = [];
  told_are = refl;
  is_first = refl;
  is_second = inl refl;
}
poll_in l (polls.Limit sn) = record {
  first = events.Expired l Poll ∷ [];
  second = events.Fail l sn ∷ [];
  told_are = refl;
  is_first = refl;
  is_second = inr (sn, refl);
}

reorder_in : (l : ℕ) (x : Expired) → IfSome (timer_told l Reorder x) (of_an_expiry l Reorder)
reorder_in l NotRunning = tt
reorder_in l (Done again) =
    let starts = if again then events.Start l Reorder ∷ [] else [] in
    record {
      first = events.Expired l Reorder ∷ [];
      second = starts;
      told_are = refl;
      is_first = refl;
      is_second = record {
        first = starts;
        second = [];
        told_are = sym (append-nil starts);
        is_first = maybe_if again (events.Start l Reorder);
        is_second = many_none (of_an_sdu l);
      };
    }

prohibit_in : (l : ℕ) (b : Bool)
    → IfSome (timer_told l Prohibit (if b then Done false else NotRunning)) (of_an_expiry l Prohibit)
prohibit_in l true = refl
prohibit_in l false = tt

some_of : (clock : Clock) (l m : ℕ) (o : Option (List Event)) → l ≡ m → IfSome o (of_an_expiry l clock)
    → IfSome o (of_an_expiry m clock)
some_of clock l m o e p = subst (λ (n : ℕ). IfSome o (of_an_expiry n clock)) e p

clock_in : (l : ℕ) (clock : Clock) (s : State) → s.pdcp.lcid ≡ l → IfSome (clock_told clock s) (of_an_expiry l clock)
clock_in l Poll s q =
    some_of Poll s.pdcp.lcid l (clock_told Poll s) q (poll_in s.pdcp.lcid (poll_expiry s.tx (has_more s.pdcp)))
clock_in l Reorder s q =
    some_of Reorder s.pdcp.lcid l (clock_told Reorder s) q (reorder_in s.pdcp.lcid (reorder_answer s.rx.mark s.rx))
clock_in l Prohibit s q =
    some_of Prohibit s.pdcp.lcid l (clock_told Prohibit s) q (prohibit_in s.pdcp.lcid (is_running s.rx.prohibit))

pub expiry_in : (l : ℕ) (clock : Clock) (s : State) → s.pdcp.lcid ≡ l → IfSome (expiry s clock) (of_an_expiry l clock)
unfolding expiry
expiry_in l clock s q = clock_in l clock s q

-- ---- a TTI begins

pub left_kept : (l : ℕ) (clock : Clock) (s : State) → s.pdcp.lcid ≡ l → (clock_left clock s).pdcp.lcid ≡ l
left_kept l Poll s q = q
left_kept l Reorder s q = q
left_kept l Prohibit s q = q

counts_kept : (l : ℕ) (clock : Clock) (s : State) → s.pdcp.lcid ≡ l → (counts clock s).pdcp.lcid ≡ l
counts_kept l Poll s q = q
counts_kept l Reorder s q = q
counts_kept l Prohibit s q = q

maybe_told : (S : OfEvents) (o : Option (List Event)) → IfSome o S → maybe S (told_of o)
maybe_told S None p = inl refl
maybe_told S (Some told) p = inr p

expires_kept : (l : ℕ) (b : Bool) (clock : Clock) (t : Ticking) → t.bearer.pdcp.lcid ≡ l
    → (expires_if b clock t).bearer.pdcp.lcid ≡ l
unfolding after_expiry
expires_kept l true clock t q = left_kept l clock t.bearer q
expires_kept l false clock t q = q

pub ticks_kept : (l : ℕ) (clock : Clock) (t : Ticking) → t.bearer.pdcp.lcid ≡ l → (ticks clock t).bearer.pdcp.lcid ≡ l
ticks_kept l clock t q =
    expires_kept l (has_ended clock t.bearer) clock (record t { bearer = counts clock t.bearer })
    (counts_kept l clock t.bearer q)

expires_in : (l : ℕ) (b : Bool) (clock : Clock) (t : Ticking) → t.bearer.pdcp.lcid ≡ l
    → Behind t.events (maybe (of_an_expiry l clock)) (expires_if b clock t).events
expires_in l true clock t q =
    behind t.events (maybe (of_an_expiry l clock)) (told_of (expiry t.bearer clock))
    (maybe_told (of_an_expiry l clock) (expiry t.bearer clock) (expiry_in l clock t.bearer q))
expires_in l false clock t q = behind_none t.events (maybe (of_an_expiry l clock)) (inl refl)

ticks_in : (l : ℕ) (clock : Clock) (t : Ticking) → t.bearer.pdcp.lcid ≡ l
    → Behind t.events (maybe (of_an_expiry l clock)) (ticks clock t).events
ticks_in l clock t q =
    expires_in l (has_ended clock t.bearer) clock (record t { bearer = counts clock t.bearer })
    (counts_kept l clock t.bearer q)

-- behind discards poll may start
settles_in : (l m : ℕ) (b : Bool) (told : List Event) (more : List Event) (w : Work) → nat_lt 0 (length more) ≡ b
    → w.events ≡ told ++ more → w.pdcp.lcid ≡ l → maybe (IsSome l) more
    → Behind told (maybe (of_discards l)) (settled_if b w).events
settles_in l m true told more w h e q (inl none') = absurd (no more h none')
  where
    no : (more : List Event) → nat_lt 0 (length more) ≡ true → more ≡ [] → ⊥
    no more h e = absurd cc
settles_in l m true told more w h e q (inr k) =
    let starts = settles w.tx (has_more w.pdcp) in
    record {
      rest = more ++ started_told w.pdcp.lcid starts;
      all_are = ap (λ (es : List Event). es ++ started_told w.pdcp.lcid starts) e
          ∙ append_assoc told more (started_told w.pdcp.lcid starts);
      is_rest =
          inr (some_in l more (started_told w.pdcp.lcid starts) k
          (as_of (λ (n : ℕ). maybe (just (events.Start n Poll))) w.pdcp.lcid l (started_told w.pdcp.lcid starts) q
          (maybe_if starts (events.Start w.pdcp.lcid Poll))));
    }
settles_in l m false told more w h e q d = record { rest = more; all_are = e; is_rest = discards_in l more d }

pub ticked_in : (l : ℕ) (s : State) → s.pdcp.lcid ≡ l → in_a_tti l (ticked s).events
unfolding ticked after_tick
ticked_in l s q =
    let E = λ (clock : Clock). maybe (of_an_expiry l clock) in
    let D = maybe (of_discards l) in
    let t0 : Ticking = record { bearer = s; events = [] } in
    let t1 = ticks Poll t0 in
    let t2 = ticks Reorder t1 in
    let t3 = ticks Prohibit t2 in
    let q1 = ticks_kept l Poll t0 q in
    let q2 = ticks_kept l Reorder t1 q1 in
    let q3 = ticks_kept l Prohibit t2 q2 in
    let more = tick_told t3.bearer.pdcp in
    let all = (discards t3).events in
    let late = as_of (λ (n : ℕ). maybe (IsSome n)) t3.bearer.pdcp.lcid l more q3 (tick_in t3.bearer.pdcp) in
    let d = settles_in l l (nat_lt 0 (length more)) t3.events more
    (work (after_tick t3.bearer.pdcp) t3.bearer.tx (t3.events ++ more)) refl refl q3 late in
    behind_nothing (E Poll then E Reorder then E Prohibit then D) all
    (behind_then [] t1.events (E Poll) (E Reorder then E Prohibit then D) all (ticks_in l Poll t0 q)
    (behind_then t1.events t2.events (E Reorder) (E Prohibit then D) all (ticks_in l Reorder t1 q1)
    (behind_then t2.events t3.events (E Prohibit) D all (ticks_in l Prohibit t2 q2) d)))

-- ---- a life ends

last_in : (l : ℕ) (sdus : List (List ℕ)) (e : Ending) → e.pdcp.lcid ≡ l
    → Behind e.events (many (of_an_sdu l)) (hears_last sdus e).events
last_in l [] e q = behind_none e.events (many (of_an_sdu l)) (many_none (of_an_sdu l))
last_in l (sdu ∷ sdus) e q =
    let told = heard_told sdu Reestablished e.pdcp in
    behind_many e.events (e.events ++ told) (of_an_sdu l) (hears_last (sdu ∷ sdus) e).events
    (behind e.events (of_an_sdu l) told (heard_in l sdu Reestablished e.pdcp q))
    (last_in l sdus _ (heard_own sdu Reestablished e.pdcp ∙ q))

pub last_kept : (l : ℕ) (sdus : List (List ℕ)) (e : Ending) → e.pdcp.lcid ≡ l → (hears_last sdus e).pdcp.lcid ≡ l
last_kept l [] e q = q
last_kept l (sdu ∷ sdus) e q = last_kept l sdus _ (heard_own sdu Reestablished e.pdcp ∙ q)

drops_in : (l m : ℕ) (sdus : List (List ℕ)) → m ≡ l
    → many (just (events.Drop l lost.Handover)) (map (λ sdu. events.Drop m lost.Handover) sdus)
drops_in l m [] q = many_none (just (events.Drop l lost.Handover))
drops_in l m (sdu ∷ sdus) q =
    many_more (just (events.Drop l lost.Handover)) (events.Drop m lost.Handover ∷ [])
    (map (λ sdu. events.Drop m lost.Handover) sdus) (ap (λ (n : ℕ). events.Drop n lost.Handover ∷ []) q)
    (drops_in l m sdus q)

ends_in : (l : ℕ) (b : Bool) (sdus : List (List ℕ)) (pdcp : Ends) → pdcp.lcid ≡ l
    → at_the_end (not b) l (ends_with b sdus (record { pdcp = pdcp; events = [] })).events
ends_in l true sdus pdcp q =
    behind_nothing (many (of_an_sdu l)) _ (last_in l sdus (record { pdcp = pdcp; events = [] }) q)
ends_in l false sdus pdcp q = drops_in l pdcp.lcid sdus q

pub stopping_in : (l : ℕ) (s : State) → s.pdcp.lcid ≡ l → at_the_end (not (is_am s.pdcp.kind)) l (stopping s)
unfolding stopping
stopping_in l s q = ends_in l (is_am s.pdcp.kind) (finished s.rx) s.pdcp q
