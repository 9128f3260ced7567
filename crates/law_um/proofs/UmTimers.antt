-- What a bearer tells of t-Reordering, and the history beside its receiver.
use Rattle.std.proofs.Common.{◌≡◌, ℕ, ◌*◌, ◌%◌, Bool, true, false, if◌then◌else◌, List, [], ◌∷◌, ◌++◌, map}
use Rattle.std.proofs.Common.{drop, Option, Some, None, Result, Ok, Err, unwrap_or, append_assoc, append-nil, refl, ap}
use Rattle.std.proofs.Common.{sym, subst}
use Rattle.std.proofs.Common.{◌∙◌}
use Rattle.std.proofs.lemmas.List.{map_push}
use Rattle.eps_sec.specs.declared.Keys.{Keys}
use Rattle.l2_num.specs.Timers.{ends}
use Rattle.l2_types.specs.declared.Clock.{Clock}
use Rattle.l2_types.specs.declared.Clock.TheVariants.{Poll, Reorder, Prohibit}
use Rattle.l2_types.specs.declared.Waits.{Waits}
use Rattle.bearer_types.specs.declared.event.Event.{Event}
use Rattle.rlc_pdu.specs.Pdus.{UmdPdu}
use Rattle.rlc_pdu.specs.Reading.{umd_at}
use Rattle.rlc_pdu.specs.declared.Expired.{Expired}
use Rattle.rlc_pdu.specs.declared.Expired.TheVariants.{Done, NotRunning}
use Rattle.rlc_pdu.specs.declared.RlcRefusal.{RlcRefusal}
use Rattle.rlc_pdu.specs.declared.outcome.Landed.{Landed}
use Rattle.rlc_pdu.specs.declared.outcome.Landed.TheVariants.{Kept, Repeat, Outside, Clash}
use Rattle.rlc_pdu.specs.declared.outcome.Taken.{Taken}
use Rattle.rlc_pdu.specs.declared.outcome.Taken.TheVariants as taken
use Rattle.rlc_um.specs.Joined.{Parts, parts_of, with_numbers}
use Rattle.rlc_um.specs.Receiver.{State as Receiver, landed, landing, turned_on, turning, arrival, expiring, expired}
use Rattle.rlc_um.specs.Receiver.{counted, handed, start, all_joined}
use Rattle.rlc_um.specs.Sender.{width_of, is_hungry, taken as rlc_taken}
use Rattle.rlc_um.specs.Window.{number_of}
use Rattle.pdcp_tx.specs.State.{Offer, offers}
use Rattle.bearer_pdcp.specs.Discarding.{tick_told}
use Rattle.bearer_pdcp.specs.Hearing.{heard_told}
use Rattle.bearer_pdcp.specs.Taking.{taking_told}
use Rattle.bearer_pdcp.specs.Telling.{landed_told, expired_told}
use Rattle.pdcp_rx.specs.declared.got.Cause.TheVariants.{Arrived}
use Rattle.bearer.specs.Unacknowledged.State.{State}
use Rattle.bearer.specs.Unacknowledged.Taking.{Feeding, fed, feeds, feeding, size_in, has_more, why_idle, idle_told}
use Rattle.bearer.specs.Unacknowledged.Taking.{data_told, taking, after_taking}
use Rattle.bearer.specs.Unacknowledged.Hearing.{Hearing, hears as hears_pdu, hears_all, all_handed, up_told}
use Rattle.bearer.specs.Unacknowledged.Hearing.{arrived_told, arrived_left, arriving as um_arriving, after_arrival}
use Rattle.bearer.specs.Unacknowledged.Hearing.{expiry_told, expiry_left, clock_told, clock_left, expiry as um_expiry}
use Rattle.bearer.specs.Unacknowledged.Hearing.{after_expiry, told_of, counted_down, timed_told, timed_left}
use Rattle.bearer.specs.Unacknowledged.Hearing.{ticking as um_ticking, after_ticking}
use Rattle.bearer.specs.Unacknowledged.Lives.{stopped, restarted}
use Rattle.bearer.specs.declared.flow.Flow.TheVariants.{Um}
use Rattle.bearer.specs.Submitting.{submitted}
use Rattle.bearer.specs.Taking.{after as taken_from, told}
use Rattle.bearer.specs.Hearing.{arriving, arrived as flow_arrived, expiry, expired as flow_expired, ticking, ticked}
use Rattle.bearer.specs.Hearing.{with_discard}
use Rattle.journal_um.specs.declared.pieces.JoinedSdu.{JoinedSdu}
use Rattle.journal_um.specs.UmEvents.{UmEvent, UmLifeEvent, InLife, LifeEnded, PduArrived, ReorderExpired}
use Rattle.journal_um.specs.UmFlow.{UmFlow, flow_of, ended}
use Rattle.journal_um.specs.UmWindow.{empty_window}
use Rattle.law_bearer.specs.AnyBearer.Calls.{Call, Submit, Take, Arrive, Expire, Tick, SetDiscard}
use Rattle.law_rlc.specs.UmPair.Run.{Call as ReceiverCall}
use Rattle.law_deliver.specs.AmFlow.Reordering.{Reordering, reordering_in, starts_if, expiry_of}
use Rattle.law_deliver.proofs.AmFlow.Reordering.{Silent, then_silent, take_silent, heard_silent, turned_is, tick_silent}
use Rattle.law_deliver.specs.AmFlow.Ups.{tells_in}
use Rattle.law_deliver.specs.UmFlow.Handing.{by_pdu, by_expiry, by_clock, hands, tells}
use Rattle.law_deliver.specs.UmFlow.Pair.{called}
use Rattle.law_deliver.specs.UmFlow.Runs.{ups, as_read, as_expired, as_timed, receiver_calls}
use Rattle.law_um.specs.UmReceiving.{SameOctets, IsBeside, started, expired_as}
use Rattle.law_um.specs.UmTimers.{hears_on, reordering_over, UmBearersTellReordering, event_of, with_events, Coming}
use Rattle.law_um.specs.UmTimers.{arrival_of, IsReadOf, Brings, Behind, IsUmBeside}
use Rattle.law_um.specs.UmTimers.{UmBearersBeginBeside, UmBearersGoOnBeside, UmBearersLiveOnBeside}
use Rattle.law_um.proofs.UmJoining.{IsKind}
use Rattle.law_um.proofs.UmLossesTold.{flow_wide}
use Rattle.law_um.proofs.UmReceiving.{outset_accounted, arrival_accounted, expired_accounted, ends_alike}

-- ---- SDUs go up to PDCP

hears_silent : (sdus : List (List ℕ)) (h : Hearing)
    → reordering_in (hears_all sdus Arrived h).events ≡ reordering_in h.events
hears_silent [] h = refl
hears_silent (sdu ∷ sdus) h =
    hears_silent sdus (hears_pdu sdu Arrived h)
    ∙ then_silent h.events (heard_told sdu Arrived h.pdcp) (heard_silent sdu Arrived h.pdcp)

up_is : (r : Receiver) (told' : List Event) (b : State) → reordering_in (up_told r told' b) ≡ reordering_in told'
up_is r told' b = hears_silent r.joined.ready (record { pdcp = b.pdcp; events = told' })

-- ---- and the receiver hands up each

record Goes (r t : Receiver) (calls : List ReceiverCall) (told' : List Reordering) : Type 0 where
  left : t ≡ hears_on calls r
  told_is : told' ≡ reordering_over calls r

hands_each : (sdus : List (List ℕ)) (r : Receiver) → r.joined.ready ≡ sdus → Goes r (all_handed r) (ups sdus) []
hands_each [] r q = record {
  left = subst (λ (l : List (List ℕ)). record r { joined = record r.joined { ready = l } } ≡ r) q refl;
  told_is = refl;
}
hands_each (sdu ∷ sdus) r q =
    let rest = hands_each sdus (handed r) (ap (λ (l : List (List ℕ)). drop 1 l) q) in
    record { left = rest.left; told_is = rest.told_is }

rests : (r : Receiver) (told' : List Reordering) → told' ≡ [] → Goes r r [] told'
rests r told' e = record { left = refl; told_is = e }

-- ---- a PDU arrives

landed_is : (lcid : ℕ) (l : Landed) (x : ℕ) (p : Parts) (r : Receiver)
    → reordering_in (landed_told lcid l (turned_on l x p r)) ≡ starts_if (turned_on l x p r).started
landed_is lcid Kept x p r = turned_is lcid (turned_on Kept x p r)
landed_is lcid Repeat x p r = refl
landed_is lcid Outside x p r = refl
landed_is lcid Clash x p r = refl

arrival_is : (lcid : ℕ) (pdu : UmdPdu) (r : Receiver)
    → reordering_in (landed_told lcid (landing pdu r) (turning pdu r)) ≡ starts_if (turning pdu r).started
unfolding landing turning
arrival_is lcid pdu r = let x = number_of r.window pdu.sn in landed_is lcid (landed r x) x (parts_of pdu) r

arrives_by : (x : Result UmdPdu RlcRefusal) (b : State)
    → Goes b.rx (arrived_left x b).rx (as_read x b.rx) (reordering_in (arrived_told x b))
arrives_by (Err refusal) b = rests b.rx (reordering_in (arrived_told (Err refusal) b)) refl
arrives_by (Ok pdu) b =
    let r = arrival pdu b.rx in
    let g = hands_each r.joined.ready r refl in
    record {
      left = g.left;
      told_is = up_is r (landed_told b.pdcp.lcid (landing pdu b.rx) (turning pdu b.rx)) b
          ∙ (arrival_is b.pdcp.lcid pdu b.rx
          ∙ (sym (append-nil (starts_if (turning pdu b.rx).started))
          ∙ ap (λ (l : List Reordering). starts_if (turning pdu b.rx).started ++ l) g.told_is));
    }

-- ---- t-Reordering expires

expiry_is : (lcid : ℕ) (again : Bool) → reordering_in (expired_told lcid Reorder again) ≡ expiry_of (Done again)
expiry_is lcid true = refl
expiry_is lcid false = refl

expires_by : (x : Expired) (b : State) → expiring b.rx ≡ x
    → Goes b.rx (expiry_left x b).rx (as_expired x b.rx) (reordering_in (told_of (expiry_told x b)))
expires_by NotRunning b e = rests b.rx [] refl
expires_by (Done again) b e =
    let r = expired b.rx in
    let g = hands_each r.joined.ready r refl in
    record {
      left = g.left;
      told_is = up_is r (expired_told b.pdcp.lcid Reorder again) b
          ∙ (expiry_is b.pdcp.lcid again
          ∙ (ap expiry_of (sym e)
          ∙ (sym (append-nil (expiry_of (expiring b.rx)))
          ∙ ap (λ (l : List Reordering). expiry_of (expiring b.rx) ++ l) g.told_is)));
    }

clock_by : (clock : Clock) (b : State)
    → Goes b.rx (clock_left clock b).rx (as_timed clock b.rx) (reordering_in (told_of (clock_told clock b)))
clock_by Poll b = rests b.rx [] refl
clock_by Reorder b = expires_by (expiring b.rx) b refl
clock_by Prohibit b = rests b.rx [] refl

timed_by : (now : Bool) (b : State)
    → Goes b.rx (timed_left now b).rx (if now then as_timed Reorder b.rx else []) (reordering_in (timed_told now b))
unfolding um_expiry after_expiry
timed_by true b = clock_by Reorder b
timed_by false b = rests b.rx [] refl

-- ---- a take

feeds_silent : (os : List Offer) (size : ℕ) (held : Option ℕ) (f : Feeding)
    → reordering_in (feeds os size held f).events ≡ reordering_in f.events
feeds_silent [] size held f = refl
feeds_silent (o ∷ os) size held f = by (is_hungry f.tx size held) (feeds_silent os size held (fed f))
  where
    by : (b : Bool) → reordering_in (feeds os size held (fed f)).events ≡ reordering_in (fed f).events
        → reordering_in (if b then feeds os size held (fed f) else f).events ≡ reordering_in f.events
    by true rest = rest ∙ then_silent f.events (taking_told f.pdcp) (take_silent f.pdcp)
    by false rest = refl

idle_silent : (lcid : ℕ) (more : Bool) (why : Waits) → Silent (idle_told lcid more why)
idle_silent lcid true why = refl
idle_silent lcid false why = refl

data_silent : (lcid bits : ℕ) (more : Bool) (why : Waits) (t : Taken) → Silent (data_told lcid bits more why t)
data_silent lcid bits more why (taken.Piece number first polled octets) = refl
data_silent lcid bits more why taken.Idle = idle_silent lcid more why
data_silent lcid bits more why taken.Small = refl
data_silent lcid bits more why taken.Shut = refl
data_silent lcid bits more why taken.Held = refl
data_silent lcid bits more why taken.Stopped = refl

taking_silent : (b : State) (share : ℕ) (held : Option ℕ) → Silent (taking b share held)
unfolding taking
taking_silent b share held =
    let f = feeding b share held in
    let last = data_told f.pdcp.lcid b.bits (has_more f.pdcp) (why_idle f.tx held) (rlc_taken f.tx (size_in share) held)
    in
    then_silent f.events last
    (data_silent f.pdcp.lcid b.bits (has_more f.pdcp) (why_idle f.tx held) (rlc_taken f.tx (size_in share) held))
    ∙ feeds_silent (offers b.pdcp.tx) (size_in share) held (record { pdcp = b.pdcp; tx = b.tx; events = [] })

-- ---- any call

tells_by : (b : State) (c : Call)
    → Goes b.rx (called b c).rx (receiver_calls b c) (reordering_in (tells b c))
unfolding submitted taken_from after_taking told flow_arrived flow_expired ticked with_discard arriving expiry ticking
    um_arriving um_expiry um_ticking after_arrival after_expiry after_ticking
tells_by b (Submit sdu) = rests b.rx [] refl
tells_by b (Take share held) = rests b.rx (reordering_in (taking b share held)) (taking_silent b share held)
tells_by b (Arrive pdu) = arrives_by (umd_at b.bits pdu) b
tells_by b (Expire clock) = clock_by clock b
tells_by b Tick =
    let now = ends b.rx.clock in
    let g = timed_by now (counted_down b) in
    record {
      left = g.left;
      told_is = then_silent (timed_told now (counted_down b)) (tick_told (timed_left now (counted_down b)).pdcp)
          (tick_silent (timed_left now (counted_down b)).pdcp) ∙ g.told_is;
    }
tells_by b (SetDiscard ttis) = rests b.rx [] refl

some_told : (o : Option (List Event)) → unwrap_or o [] ≡ told_of o
some_told None = refl
some_told (Some told') = refl

tells_alike : (l : ℕ) (b : State) (c : Call) → tells_in l (Um b) c ≡ tells b c
unfolding told arriving
tells_alike l b (Submit sdu) = refl
tells_alike l b (Take share held) = refl
tells_alike l b (Arrive pdu) = refl
tells_alike l b (Expire clock) = some_told (expiry (Um b) clock)
tells_alike l b Tick = refl
tells_alike l b (SetDiscard ttis) = refl

pub um_bearers_tell_reordering : UmBearersTellReordering
um_bearers_tell_reordering b c =
    let g = tells_by b c in
    record { tells_are = λ l. tells_alike l b c; left = g.left; told_is = g.told_is }

-- ---- the history

pub then_events : (xs ys : List UmEvent) (es : List UmLifeEvent)
    → with_events (xs ++ ys) es ≡ with_events ys (with_events xs es)
then_events [] ys es = refl
then_events (x ∷ xs) ys es = then_events xs ys (InLife x ∷ es)

flow_started : (width many : ℕ) (b : Bool) (es : List UmLifeEvent)
    → flow_of width many (with_events (map event_of (starts_if b)) es) ≡ started b (flow_of width many es)
flow_started width many true es = refl
flow_started width many false es = refl

flow_expired_as : (width many : ℕ) (x : Expired) (es : List UmLifeEvent)
    → flow_of width many (with_events (map event_of (expiry_of x)) es) ≡ expired_as x (flow_of width many es)
flow_expired_as width many NotRunning es = refl
flow_expired_as width many (Done again) es = flow_started width many again (InLife ReorderExpired ∷ es)

-- ---- octet by octet, behind those that went up before

behind_kind : (gone : List (List ℕ)) → IsKind SameOctets (Behind gone)
behind_kind gone = record {
  goes = λ kept octets more others before place g h.
      ap (λ (l : List ℕ). l ++ more) g ∙ ap (λ (l : List ℕ). octets ++ l) h;
  more = λ ready kept octets place u k h.
      sym (append_assoc gone ready (kept ∷ []))
      ∙ (ap (λ (l : List (List ℕ)). l ++ kept ∷ []) h
      ∙ (ap (λ (x : List ℕ). map (λ (sdu : JoinedSdu). sdu.octets) u.ready ++ x ∷ []) k
      ∙ sym (map_push (λ (sdu : JoinedSdu). sdu.octets) u.ready (record { place = place; octets = octets }))));
  free = λ ready part u h. h;
}

-- what is ready goes up
goes_up : (gone ready : List (List ℕ)) (r : Receiver) (f : UmFlow) → r.joined.ready ≡ ready
    → IsBeside SameOctets (Behind gone) r f → IsBeside SameOctets (Behind (gone ++ ready)) (all_handed r) f
goes_up gone ready r f e h = record {
  window = h.window;
  part = h.part;
  ready = append-nil (gone ++ ready) ∙ (ap (λ (l : List (List ℕ)). gone ++ l) (sym e) ∙ h.ready);
  mark = h.mark;
}

module _ (width many : ℕ) where
  -- what a receiver is beside, of what is told
  abbrev Beside : List (List ℕ) → Receiver → List UmLifeEvent → Type 0
  Beside gone r es = IsUmBeside width many gone r es

  up_beside : (gone : List (List ℕ)) (r : Receiver) (es : List UmLifeEvent)
      → IsBeside SameOctets (Behind gone) r (flow_of width many es) → Beside (gone ++ r.joined.ready) (all_handed r) es
  up_beside gone r es h = record {
    idle = refl;
    beside = goes_up gone r.joined.ready r (flow_of width many es) refl h;
  }

  -- nothing goes up, and nothing is told
  stays_beside : (gone : List (List ℕ)) (r : Receiver) (told' : List Reordering) (es : List UmLifeEvent) → told' ≡ []
      → Beside gone r es → Beside (gone ++ []) r (with_events (map event_of told') es)
  stays_beside gone r told' es e h =
      subst (λ (l : List Reordering). Beside (gone ++ []) r (with_events (map event_of l) es)) (sym e)
      (subst (λ (l : List (List ℕ)). Beside l r es) (sym (append-nil gone)) h)

  arrives_beside : (x : Result UmdPdu RlcRefusal) (p : Option Coming) (gone : List (List ℕ)) (b : State)
      (es : List UmLifeEvent) → IsReadOf width x p → Beside gone b.rx es
      → Beside (gone ++ by_pdu x b.rx) (arrived_left x b).rx
      (with_events (arrival_of p ++ map event_of (reordering_in (arrived_told x b))) es)
  arrives_beside (Err refusal) None gone b es is h =
      stays_beside gone b.rx (reordering_in (arrived_told (Err refusal) b)) es refl h
  arrives_beside (Err refusal) (Some p) gone b es is h = absurd is
  arrives_beside (Ok pdu) None gone b es is h = absurd is
  arrives_beside (Ok pdu) (Some p) gone b es is h =
      let r = arrival pdu b.rx in
      let starts = (turning pdu b.rx).started in
      let come : List UmLifeEvent = InLife (PduArrived p.number p.pieces) ∷ es in
      let behind = arrival_accounted SameOctets (Behind gone) (behind_kind gone) b.rx (flow_of width many es) pdu
      p.number p.pieces
      (is.0 ∙ ap (λ (n : ℕ). p.number % (2 * n)) (sym (flow_wide width many es))) is.1 h.beside in
      subst (λ (l : List Reordering). Beside (gone ++ r.joined.ready) (all_handed r)
      (with_events (map event_of l) come))
      (sym (up_is r (landed_told b.pdcp.lcid (landing pdu b.rx) (turning pdu b.rx)) b
      ∙ arrival_is b.pdcp.lcid pdu b.rx))
      (up_beside gone r (with_events (map event_of (starts_if starts)) come)
      (subst (IsBeside SameOctets (Behind gone) r) (sym (flow_started width many starts come)) behind))

  expires_beside : (x : Expired) (gone : List (List ℕ)) (b : State) (es : List UmLifeEvent) → expiring b.rx ≡ x
      → Beside gone b.rx es
      → Beside (gone ++ by_expiry x b.rx) (expiry_left x b).rx
      (with_events (map event_of (reordering_in (told_of (expiry_told x b)))) es)
  expires_beside NotRunning gone b es e h = stays_beside gone b.rx [] es refl h
  expires_beside (Done again) gone b es e h =
      let r = expired b.rx in
      let behind = expired_accounted SameOctets (Behind gone) (behind_kind gone) b.rx (flow_of width many es) h.beside
      in
      let same : expired_as (expiring b.rx) (flow_of width many es)
      ≡ flow_of width many (with_events (map event_of (expiry_of (Done again))) es) =
      ap (λ (y : Expired). expired_as y (flow_of width many es)) e
      ∙ sym (flow_expired_as width many (Done again) es) in
      subst (λ (l : List Reordering). Beside (gone ++ r.joined.ready) (all_handed r)
      (with_events (map event_of l) es))
      (sym (up_is r (expired_told b.pdcp.lcid Reorder again) b ∙ expiry_is b.pdcp.lcid again))
      (up_beside gone r (with_events (map event_of (expiry_of (Done again))) es)
      (subst (IsBeside SameOctets (Behind gone) r) same behind))

  clock_beside : (clock : Clock) (gone : List (List ℕ)) (b : State) (es : List UmLifeEvent) → Beside gone b.rx es
      → Beside (gone ++ by_clock clock b.rx) (clock_left clock b).rx
      (with_events (map event_of (reordering_in (told_of (clock_told clock b)))) es)
  clock_beside Poll gone b es h = stays_beside gone b.rx [] es refl h
  clock_beside Reorder gone b es h = expires_beside (expiring b.rx) gone b es refl h
  clock_beside Prohibit gone b es h = stays_beside gone b.rx [] es refl h

  timed_beside : (now : Bool) (gone : List (List ℕ)) (b : State) (es : List UmLifeEvent) → Beside gone b.rx es
      → Beside (gone ++ (if now then by_clock Reorder b.rx else [])) (timed_left now b).rx
      (with_events (map event_of (reordering_in (timed_told now b))) es)
  unfolding um_expiry after_expiry
  timed_beside true gone b es h = clock_beside Reorder gone b es h
  timed_beside false gone b es h = stays_beside gone b.rx [] es refl h

  counted_beside : (gone : List (List ℕ)) (r : Receiver) (es : List UmLifeEvent) → Beside gone r es
      → Beside gone (counted r) es
  counted_beside gone r es h = record {
    idle = h.idle;
    beside = record { window = h.beside.window; part = h.beside.part; ready = h.beside.ready; mark = h.beside.mark };
  }

  -- a call that brings none
  none_brought : (p : Option Coming) (gone : List (List ℕ)) (r : Receiver) (told' : List Reordering)
      (es : List UmLifeEvent) → p ≡ None → Beside gone r (with_events (map event_of told') es)
      → Beside gone r (with_events (arrival_of p ++ map event_of told') es)
  none_brought p gone r told' es e h =
      subst (λ (q : Option Coming). Beside gone r (with_events (arrival_of q ++ map event_of told') es)) (sym e) h

  goes_on : (gone : List (List ℕ)) (b : State) (c : Call) (p : Option Coming) (es : List UmLifeEvent)
      → Brings width b c p → Beside gone b.rx es
      → Beside (gone ++ hands b c) (called b c).rx
      (with_events (arrival_of p ++ map event_of (reordering_in (tells b c))) es)
  unfolding submitted taken_from after_taking told flow_arrived flow_expired ticked with_discard arriving expiry ticking
      um_arriving um_expiry um_ticking after_arrival after_expiry after_ticking
  goes_on gone b (Submit sdu) p es is h =
      none_brought p (gone ++ []) b.rx [] es is (stays_beside gone b.rx [] es refl h)
  goes_on gone b (Take share held) p es is h =
      none_brought p (gone ++ []) b.rx (reordering_in (taking b share held)) es is
      (stays_beside gone b.rx (reordering_in (taking b share held)) es (taking_silent b share held) h)
  goes_on gone b (Arrive pdu) p es is h = arrives_beside (umd_at b.bits pdu) p gone b es is h
  goes_on gone b (Expire clock) p es is h =
      none_brought p (gone ++ by_clock clock b.rx) (clock_left clock b).rx
      (reordering_in (told_of (clock_told clock b))) es is (clock_beside clock gone b es h)
  goes_on gone b Tick p es is h =
      let now = ends b.rx.clock in
      let d = counted_down b in
      let left = timed_left now d in
      let told' = timed_told now d ++ tick_told left.pdcp in
      let up : List (List ℕ) = if now then by_clock Reorder d.rx else [] in
      none_brought p (gone ++ up) left.rx (reordering_in told') es is
      (subst (λ (l : List Reordering). Beside (gone ++ up) left.rx (with_events (map event_of l) es))
      (sym (then_silent (timed_told now d) (tick_told left.pdcp) (tick_silent left.pdcp)))
      (timed_beside now gone d es (counted_beside gone b.rx es h)))
  goes_on gone b (SetDiscard ttis) p es is h =
      none_brought p (gone ++ []) b.rx [] es is (stays_beside gone b.rx [] es refl h)

pub um_bearers_go_on_beside : UmBearersGoOnBeside
um_bearers_go_on_beside width many gone b c p es is h = goes_on width many gone b c p es is h

pub um_bearers_begin_beside : UmBearersBeginBeside
um_bearers_begin_beside width reorder many = record {
  idle = refl;
  beside = outset_accounted SameOctets (Behind []) (behind_kind []) width reorder (flow_of width many []) refl refl
      refl;
}

all_is : (r : Receiver) → all_joined r ≡ (with_numbers r.window.slots r.joined).ready
unfolding all_joined
all_is r = refl

begins_again : (b : State) (keys : Keys) → (restarted (stopped b) keys).rx ≡ start (width_of b.bits) b.reorder
unfolding stopped restarted
begins_again b keys = refl

pub um_bearers_live_on_beside : UmBearersLiveOnBeside
um_bearers_live_on_beside width many gone b keys es wide h =
    let f = flow_of width many es in
    let up = gone ++ all_joined b.rx in
    let joined = ends_alike SameOctets (Behind gone) (behind_kind gone) b.rx f h.beside in
    let ready : Behind up [] (ended f).joiner =
    append-nil up ∙ (ap (λ (l : List (List ℕ)). gone ++ l) (all_is b.rx) ∙ joined.ready) in
    subst (λ (r : Receiver). IsUmBeside width many up r (LifeEnded ∷ es)) (sym (begins_again b keys))
    (record {
      idle = refl;
      beside = outset_accounted SameOctets (Behind up) (behind_kind up) (width_of b.bits) b.reorder (ended f)
          (ap empty_window (flow_wide width many es ∙ sym wide)) refl ready;
    })
