-- PDCP's receiver hears just what RLC's receiver hands up.
use Rattle.std.proofs.Common.{◌≡◌, ℕ, ◌+◌, ◌^◌, Bool, true, false, ◌&&◌, ◌||◌, if◌then◌else◌, nat_le, List, [], ◌∷◌}
use Rattle.std.proofs.Common.{◌++◌, Option, Some, None, Result, Ok, Err, append_assoc, append-nil, refl, ap, sym, ◌∙◌}
use Rattle.bearer_types.specs.declared.Event.{Event}
use Rattle.bearer_types.specs.declared.Event.TheVariants as events
use Rattle.l2_num.specs.Timers.{ends}
use Rattle.l2_types.specs.declared.Clock.{Clock}
use Rattle.l2_types.specs.declared.Clock.TheVariants.{Poll, Reorder, Prohibit}
use Rattle.l2_types.specs.declared.Lost.TheVariants as lost
use Rattle.l2_types.specs.declared.Waits.{Waits}
use Rattle.pdcp_pdu.specs.Kinds.{is_am}
use Rattle.pdcp_rx.specs.declared.got.Cause.{Cause}
use Rattle.pdcp_rx.specs.declared.got.Cause.TheVariants.{Arrived, Reestablished}
use Rattle.pdcp_rx.specs.declared.got.Got.{Got}
use Rattle.pdcp_rx.specs.declared.got.Got.TheVariants as answers
use Rattle.pdcp_rx.specs.declared.security.Opened.{Opened}
use Rattle.pdcp_rx.specs.declared.security.Opened.TheVariants.{Sdu, Differs}
use Rattle.pdcp_rx.specs.Heard.{Heard, Bad, Told, Data, heard}
use Rattle.pdcp_rx.specs.Held.{is_held}
use Rattle.pdcp_rx.specs.State.{State as Receiving, got, arrived, above, opened_at, waits, got_heard, got_data}
use Rattle.pdcp_rx.specs.State.{got_opened, left_heard, left_data, left_opened, width}
use Rattle.pdcp_tx.specs.State.{Offer, offers, reported}
use Rattle.rlc_pdu.specs.declared.outcome.Landed.{Landed}
use Rattle.rlc_pdu.specs.declared.outcome.Landed.TheVariants.{Kept, Repeat, Outside, Clash}
use Rattle.rlc_pdu.specs.declared.outcome.Turned.{Turned}
use Rattle.rlc_pdu.specs.declared.Expired.{Expired}
use Rattle.rlc_pdu.specs.declared.Expired.TheVariants.{Done, NotRunning}
use Rattle.rlc_pdu.specs.declared.RlcRefusal.{RlcRefusal}
use Rattle.rlc_pdu.specs.declared.Taken.{Taken}
use Rattle.rlc_pdu.specs.declared.Taken.TheVariants as taken
use Rattle.rlc_pdu.specs.Pdus.{UmdPdu}
use Rattle.rlc_pdu.specs.Reading.{umd_at}
use Rattle.rlc_um.specs.Sender.{is_hungry, taken as rlc_taken}
use Rattle.rlc_um.specs.Receiver.{State as Receiver, landing, turning, arrival, expiring, expired, all_joined}
use Rattle.bearer_pdcp.specs.Discarding.{after_tick, tick_told}
use Rattle.bearer_pdcp.specs.Ends.{Ends}
use Rattle.bearer_pdcp.specs.Hearing.{is_arrived, is_applied, got_told, got_left, heard_told, after_hearing}
use Rattle.bearer_pdcp.specs.Taking.{taking_told, after_taking as after_pdcp}
use Rattle.bearer_pdcp.specs.Telling.{landed_told, turned_told, expired_told}
use Rattle.bearer.specs.Unacknowledged.State.{State}
use Rattle.bearer.specs.Unacknowledged.Taking.{Feeding, fed, feeds, feeding, size_in, has_more, why_idle, idle_told}
use Rattle.bearer.specs.Unacknowledged.Taking.{data_told, taking, after_taking}
use Rattle.bearer.specs.Unacknowledged.Hearing.{Hearing, hears as hears_pdu, hears_all, up_left, up_told, arrived_told}
use Rattle.bearer.specs.Unacknowledged.Hearing.{arrived_left, arriving as um_arriving, after_arrival, expiry_told}
use Rattle.bearer.specs.Unacknowledged.Hearing.{expiry_left, clock_told, clock_left, expiry as um_expiry, after_expiry}
use Rattle.bearer.specs.Unacknowledged.Hearing.{told_of, counted_down, timed_told, timed_left, ticking as um_ticking}
use Rattle.bearer.specs.Unacknowledged.Hearing.{after_ticking}
use Rattle.bearer.specs.Unacknowledged.Lives.{stopped, stopping as um_stopping}
use Rattle.bearer.specs.Submitting.{submitted}
use Rattle.bearer.specs.Taking.{after as taken_from, told}
use Rattle.bearer.specs.Hearing.{arriving, arrived as flow_arrived, expiry, expired as flow_expired, ticking, ticked}
use Rattle.bearer.specs.Hearing.{with_discard}
use Rattle.bearer.specs.Lives.{stopping}
use Rattle.law_bearer.specs.AnyBearer.Calls.{Call, Submit, Take, Arrive, Expire, Tick, SetDiscard}
use Rattle.law_bearer.specs.AmBearer.Calls.{ups_among}
use Rattle.law_bearer.proofs.AmBearer.Ups.{ups_then, none_then, ups_are}
use Rattle.law_bearer.proofs.AmBearer.Taking.{taking_none}
use Rattle.law_bearer.proofs.AmBearer.Timing.{tick_none}
use Rattle.law_deliver.specs.UmFlow.Pair.{called}
use Rattle.law_deliver.specs.UmFlow.Handing.{by_pdu, by_expiry, by_clock, hands, handed, hears_one, hears, raises}
use Rattle.law_deliver.specs.UmFlow.Handing.{tells, tells_all, IsOfData, HearsJust, HearsTheRest}

-- ---- a PDU comes to PDCP

abbrev raised : Receiving → Receiving
raised r = record r { ready = [] }

none_ready : (e : Ends) → e.rx.ready ≡ [] → record e { rx = raised e.rx } ≡ e
none_ready e q = ap (λ (l : List (List ℕ)). record e { rx = record e.rx { ready = l } }) (sym q)

-- an answer, with the receiver that it leaves
record Comes (cause : Cause) (g : Got) (r : Receiving) (e : Ends) : Type 0 where
  left : got_left g cause (record e { rx = r }) ≡ record e { rx = raised r }
  ups : ups_among (got_told g cause (record e { rx = r })) ≡ r.ready

report_told : (b : Bool) (lcid : ℕ) → ups_among (if b then [] else events.Drop lcid lost.Report ∷ []) ≡ []
report_told true lcid = refl
report_told false lcid = refl

reported_comes : (cause : Cause) (fms : ℕ) (bitmap : List ℕ) (e : Ends) → is_am e.kind ≡ false → e.rx.ready ≡ []
    → Comes cause (answers.Report fms bitmap) e.rx e
reported_comes cause fms bitmap e um q = record {
  left = ap (λ (b : Bool). if b && is_arrived cause then record e { tx = reported e.tx fms bitmap } else e) um
      ∙ sym (none_ready e q);
  ups = report_told (is_applied e cause fms) e.lcid ∙ sym q;
}

dropped : (cause : Cause) (old : Bool) (e : Ends) → e.rx.ready ≡ []
    → Comes cause (if old then answers.Old else answers.OutOfRange) e.rx e
dropped cause true e q = record { left = sym (none_ready e q); ups = sym q }
dropped cause false e q = record { left = sym (none_ready e q); ups = sym q }

upward : (cause : Cause) (b : Bool) (r : Receiving) (e : Ends)
    → Comes cause (if b then answers.Stored else answers.Up) r e
upward cause true r e = record { left = refl; ups = ups_are e.lcid r.ready }
upward cause false r e = record { left = refl; ups = ups_are e.lcid r.ready }

opened_comes : (cause : Cause) (at : ℕ) (o : Opened) (e : Ends) → e.rx.ready ≡ []
    → Comes cause (got_opened e.rx cause at o) (left_opened e.rx cause at o) e
opened_comes cause at (Sdu sdu) e q = upward cause (waits e.rx.kind cause at) (left_opened e.rx cause at (Sdu sdu)) e
opened_comes cause at (Differs found wanted) e q = record { left = sym (none_ready e q); ups = sym q }

data_comes : (cause : Cause) (at : ℕ) (o : Opened) (old beyond : Bool) (e : Ends) → e.rx.ready ≡ []
    → Comes cause (got_data (if old then Some answers.Old else (if beyond then Some answers.OutOfRange else None))
    e.rx cause at o) (left_data (if old then Some answers.Old else (if beyond then Some answers.OutOfRange else None))
    e.rx cause at o) e
data_comes cause at o true beyond e q = dropped cause true e q
data_comes cause at o false true e q = dropped cause false e q
data_comes cause at o false false e q = opened_comes cause at o e q

heard_comes : (cause : Cause) (h : Heard) (e : Ends) → is_am e.kind ≡ false → e.rx.ready ≡ []
    → Comes cause (got_heard e.rx cause h) (left_heard e.rx cause h) e
heard_comes cause (Bad refusal) e um q = record { left = sym (none_ready e q); ups = sym q }
heard_comes cause (Told fms bitmap) e um q = reported_comes cause fms bitmap e um q
heard_comes cause (Data sn body) e um q =
    let at = above e.rx sn in
    data_comes cause at (opened_at e.rx at body) (nat_le (width e.rx.kind) at || is_held e.rx.held at)
    (nat_le (2 ^ 32) (e.rx.next + at)) e q

after_one : (cause : Cause) (pdu : List ℕ) (e : Ends) → is_am e.kind ≡ false → e.rx.ready ≡ []
    → after_hearing pdu cause e ≡ record e { rx = hears_one cause pdu e.rx }
unfolding after_hearing got arrived
after_one cause pdu e um q = (heard_comes cause (heard e.rx.kind pdu) e um q).left

one_ups : (cause : Cause) (pdu : List ℕ) (e : Ends) → is_am e.kind ≡ false → e.rx.ready ≡ []
    → ups_among (heard_told pdu cause e) ≡ (arrived e.rx pdu cause).ready
unfolding heard_told got arrived
one_ups cause pdu e um q = (heard_comes cause (heard e.rx.kind pdu) e um q).ups

-- ---- several, one after the other

pub record HearsSo (cause : Cause) (pdus : List (List ℕ)) (h : Hearing) : Type 0 where
  pub left : (hears_all pdus cause h).pdcp ≡ record h.pdcp { rx = hears cause pdus h.pdcp.rx }
  pub ups : ups_among (hears_all pdus cause h).events ≡ ups_among h.events ++ raises cause pdus h.pdcp.rx

pub hears_so : (cause : Cause) (pdus : List (List ℕ)) (h : Hearing) → is_am h.pdcp.kind ≡ false → h.pdcp.rx.ready ≡ []
    → HearsSo cause pdus h
hears_so cause [] h um q = record { left = refl; ups = sym (append-nil (ups_among h.events)) }
hears_so cause (pdu ∷ pdus) h um q =
    let e : Ends = record h.pdcp { rx = hears_one cause pdu h.pdcp.rx } in
    let more : List Event = h.events ++ heard_told pdu cause h.pdcp in
    let next : Hearing = record { pdcp = e; events = more } in
    let same : hears_pdu pdu cause h ≡ next =
    ap (λ (x : Ends). record { pdcp = x; events = more }) (after_one cause pdu h.pdcp um q) in
    let rest = hears_so cause pdus next um refl in
    let up : List (List ℕ) = (arrived h.pdcp.rx pdu cause).ready in
    record {
      left = ap (λ (x : Hearing). (hears_all pdus cause x).pdcp) same ∙ rest.left;
      ups =
          ap (λ (x : Hearing). ups_among (hears_all pdus cause x).events) same ∙ rest.ups
          ∙ ap (λ (l : List (List ℕ)). l ++ raises cause pdus e.rx)
          (ups_then h.events (heard_told pdu cause h.pdcp)
          ∙ ap (λ (l : List (List ℕ)). ups_among h.events ++ l) (one_ups cause pdu h.pdcp um q))
          ∙ append_assoc (ups_among h.events) up (raises cause pdus e.rx);
    }

hears_ready : (cause : Cause) (pdus : List (List ℕ)) (r : Receiving) → r.ready ≡ [] → (hears cause pdus r).ready ≡ []
hears_ready cause [] r q = q
hears_ready cause (pdu ∷ pdus) r q = hears_ready cause pdus (hears_one cause pdu r) refl

-- ---- what a call leaves of PDCP's receiver, and tells

record HearsIn (before after' : Ends) (told : List Event) (pdus : List (List ℕ)) : Type 0 where
  kind : after'.kind ≡ before.kind
  heard' : after'.rx ≡ hears Arrived pdus before.rx
  ups : ups_among told ≡ raises Arrived pdus before.rx

quiet : (e : Ends) (told : List Event) → ups_among told ≡ [] → HearsIn e e told []
quiet e told none = record { kind = refl; heard' = refl; ups = none }

ups_so : (r : Receiver) (told : List Event) (b : State) → ups_among told ≡ [] → is_am b.pdcp.kind ≡ false
    → b.pdcp.rx.ready ≡ [] → HearsIn b.pdcp (up_left r told b).pdcp (up_told r told b) r.joined.ready
ups_so r told b none um q =
    let s = hears_so Arrived r.joined.ready (record { pdcp = b.pdcp; events = told }) um q in
    record {
      kind = ap (λ (e : Ends). e.kind) s.left;
      heard' = ap (λ (e : Ends). e.rx) s.left;
      ups = s.ups ∙ ap (λ (l : List (List ℕ)). l ++ raises Arrived r.joined.ready b.pdcp.rx) none;
    }

turned_none : (lcid : ℕ) (stopped' started : Bool)
    → ups_among (turned_told lcid (record { stopped = stopped'; started = started })) ≡ []
turned_none lcid true true = refl
turned_none lcid true false = refl
turned_none lcid false true = refl
turned_none lcid false false = refl

landed_none : (lcid : ℕ) (l : Landed) (t : Turned) → ups_among (landed_told lcid l t) ≡ []
landed_none lcid Kept t = turned_none lcid t.stopped t.started
landed_none lcid Repeat t = refl
landed_none lcid Outside t = refl
landed_none lcid Clash t = refl

arrival_so : (r : Result UmdPdu RlcRefusal) (b : State) → is_am b.pdcp.kind ≡ false → b.pdcp.rx.ready ≡ []
    → HearsIn b.pdcp (arrived_left r b).pdcp (arrived_told r b) (by_pdu r b.rx)
arrival_so (Err refused) b um q = quiet b.pdcp (arrived_told (Err refused) b) refl
arrival_so (Ok pdu) b um q =
    ups_so (arrival pdu b.rx) (landed_told b.pdcp.lcid (landing pdu b.rx) (turning pdu b.rx)) b
    (landed_none b.pdcp.lcid (landing pdu b.rx) (turning pdu b.rx)) um q

expired_none : (lcid : ℕ) (again : Bool) → ups_among (expired_told lcid Reorder again) ≡ []
expired_none lcid true = refl
expired_none lcid false = refl

expiry_so : (x : Expired) (b : State) → is_am b.pdcp.kind ≡ false → b.pdcp.rx.ready ≡ []
    → HearsIn b.pdcp (expiry_left x b).pdcp (told_of (expiry_told x b)) (by_expiry x b.rx)
expiry_so NotRunning b um q = quiet b.pdcp [] refl
expiry_so (Done again) b um q =
    ups_so (expired b.rx) (expired_told b.pdcp.lcid Reorder again) b (expired_none b.pdcp.lcid again) um q

clock_so : (clock : Clock) (b : State) → is_am b.pdcp.kind ≡ false → b.pdcp.rx.ready ≡ []
    → HearsIn b.pdcp (clock_left clock b).pdcp (told_of (clock_told clock b)) (by_clock clock b.rx)
clock_so Poll b um q = quiet b.pdcp [] refl
clock_so Reorder b um q = expiry_so (expiring b.rx) b um q
clock_so Prohibit b um q = quiet b.pdcp [] refl

timed_so : (now : Bool) (b : State) → is_am b.pdcp.kind ≡ false → b.pdcp.rx.ready ≡ []
    → HearsIn b.pdcp (timed_left now b).pdcp (timed_told now b) (if now then by_clock Reorder b.rx else [])
unfolding um_expiry after_expiry
timed_so true b um q = clock_so Reorder b um q
timed_so false b um q = quiet b.pdcp [] refl

ticked_rx : (e : Ends) → ((after_tick e).rx ≡ e.rx) × ((after_tick e).kind ≡ e.kind)
unfolding after_tick
ticked_rx e = (refl, refl)

-- the discard timers count behind that
tick_so : (e m : Ends) (told : List Event) (pdus : List (List ℕ)) → HearsIn e m told pdus
    → HearsIn e (after_tick m) (told ++ tick_told m) pdus
tick_so e m told pdus h = record {
  kind = (ticked_rx m).1 ∙ h.kind;
  heard' = (ticked_rx m).0 ∙ h.heard';
  ups = ups_then told (tick_told m) ∙ ap (λ (l : List (List ℕ)). ups_among told ++ l) (tick_none m)
      ∙ append-nil (ups_among told) ∙ h.ups;
}

-- ---- as RLC takes PDUs

fed_rx : (e : Ends) → ((after_pdcp e).rx ≡ e.rx) × ((after_pdcp e).kind ≡ e.kind)
unfolding after_pdcp
fed_rx e = (refl, refl)

record FedSo (f g : Feeding) : Type 0 where
  kind : g.pdcp.kind ≡ f.pdcp.kind
  rx : g.pdcp.rx ≡ f.pdcp.rx
  ups : ups_among g.events ≡ ups_among f.events

fed_so : (f g : Feeding) → FedSo (fed f) g → FedSo f g
fed_so f g h = record {
  kind = h.kind ∙ (fed_rx f.pdcp).1;
  rx = h.rx ∙ (fed_rx f.pdcp).0;
  ups = h.ups ∙ ups_then f.events (taking_told f.pdcp)
      ∙ ap (λ (l : List (List ℕ)). ups_among f.events ++ l) (taking_none f.pdcp) ∙ append-nil (ups_among f.events);
}

fed_by : (b : Bool) (f g : Feeding) → FedSo f g → FedSo f (if b then g else f)
fed_by true f g h = h
fed_by false f g h = record { kind = refl; rx = refl; ups = refl }

feeds_so : (os : List Offer) (size : ℕ) (held : Option ℕ) (f : Feeding) → FedSo f (feeds os size held f)
feeds_so [] size held f = record { kind = refl; rx = refl; ups = refl }
feeds_so (o ∷ os) size held f =
    fed_by (is_hungry f.tx size held) f (feeds os size held (fed f))
    (fed_so f (feeds os size held (fed f)) (feeds_so os size held (fed f)))

idle_none : (lcid : ℕ) (more : Bool) (why : Waits) → ups_among (idle_told lcid more why) ≡ []
idle_none lcid true why = refl
idle_none lcid false why = refl

data_none : (lcid bits : ℕ) (more : Bool) (why : Waits) (t : Taken) → ups_among (data_told lcid bits more why t) ≡ []
data_none lcid bits more why (taken.Piece number first polled octets) = refl
data_none lcid bits more why taken.Idle = idle_none lcid more why
data_none lcid bits more why taken.Small = refl
data_none lcid bits more why taken.Shut = refl
data_none lcid bits more why taken.Held = refl
data_none lcid bits more why taken.Stopped = refl

take_so : (b : State) (share : ℕ) (held : Option ℕ)
    → HearsIn b.pdcp (called b (Take share held)).pdcp (tells b (Take share held)) []
unfolding taken_from after_taking told taking
take_so b share held =
    let f = feeding b share held in
    let s = feeds_so (offers b.pdcp.tx) (size_in share) held (record { pdcp = b.pdcp; tx = b.tx; events = [] }) in
    let last : List Event =
    data_told f.pdcp.lcid b.bits (has_more f.pdcp) (why_idle f.tx held) (rlc_taken f.tx (size_in share) held) in
    record {
      kind = s.kind;
      heard' = s.rx;
      ups =
          none_then f.events last s.ups
          (data_none f.pdcp.lcid b.bits (has_more f.pdcp) (why_idle f.tx held) (rlc_taken f.tx (size_in share) held));
    }

-- ---- any call

one_call : (b : State) (c : Call) → is_am b.pdcp.kind ≡ false → b.pdcp.rx.ready ≡ []
    → HearsIn b.pdcp (called b c).pdcp (tells b c) (hands b c)
unfolding submitted flow_arrived flow_expired ticked with_discard arriving expiry ticking um_arriving um_expiry
    um_ticking after_arrival after_expiry after_ticking
one_call b (Submit sdu) um q = record { kind = refl; heard' = refl; ups = refl }
one_call b (Take share held) um q = take_so b share held
one_call b (Arrive pdu) um q = arrival_so (umd_at b.bits pdu) b um q
one_call b (Expire clock) um q = clock_so clock b um q
one_call b Tick um q =
    tick_so b.pdcp (timed_left (ends b.rx.clock) (counted_down b)).pdcp
    (timed_told (ends b.rx.clock) (counted_down b)) (hands b Tick) (timed_so (ends b.rx.clock) (counted_down b) um q)
one_call b (SetDiscard ttis) um q = record { kind = refl; heard' = refl; ups = refl }

-- ---- in a life

is_um : (bits : ℕ) (b : State) → IsOfData bits b → is_am b.pdcp.kind ≡ false
is_um bits b h = ap is_am h.kind

still : (bits : ℕ) (b : State) (c : Call) → IsOfData bits b → IsOfData bits (called b c)
still bits b c h =
    let one = one_call b c (is_um bits b h) h.idle in
    record {
      kind = one.kind ∙ h.kind;
      idle = ap (λ (r : Receiving). r.ready) one.heard'
          ∙ hears_ready Arrived (hands b c) b.pdcp.rx h.idle;
    }

hears_then : (cause : Cause) (xs ys : List (List ℕ)) (r : Receiving)
    → hears cause (xs ++ ys) r ≡ hears cause ys (hears cause xs r)
hears_then cause [] ys r = refl
hears_then cause (x ∷ xs) ys r = hears_then cause xs ys (hears_one cause x r)

raises_then : (cause : Cause) (xs ys : List (List ℕ)) (r : Receiving)
    → raises cause (xs ++ ys) r ≡ raises cause xs r ++ raises cause ys (hears cause xs r)
raises_then cause [] ys r = refl
raises_then cause (x ∷ xs) ys r =
    ap (λ (l : List (List ℕ)). (arrived r x cause).ready ++ l) (raises_then cause xs ys (hears_one cause x r))
    ∙ sym (append_assoc (arrived r x cause).ready (raises cause xs (hears_one cause x r))
    (raises cause ys (hears cause xs (hears_one cause x r))))

pub hears_what_is_handed : (bits : ℕ) (b : State) (cs : List Call) → IsOfData bits b → HearsJust bits b cs
hears_what_is_handed bits b [] h = record { heard = refl; ups = refl; stays = h }
hears_what_is_handed bits b (c ∷ cs) h =
    let one = one_call b c (is_um bits b h) h.idle in
    let d : State = called b c in
    let rest = hears_what_is_handed bits d cs (still bits b c h) in
    let r : Receiving = b.pdcp.rx in
    record {
      heard = rest.heard ∙ ap (hears Arrived (handed d cs)) one.heard'
          ∙ sym (hears_then Arrived (hands b c) (handed d cs) r);
      ups =
          ups_then (tells b c) (tells_all d cs)
          ∙ ap (λ (l : List (List ℕ)). l ++ ups_among (tells_all d cs)) one.ups
          ∙ ap (λ (l : List (List ℕ)). raises Arrived (hands b c) r ++ l)
          (rest.ups ∙ ap (raises Arrived (handed d cs)) one.heard')
          ∙ sym (raises_then Arrived (hands b c) (handed d cs) r);
      stays = rest.stays;
    }

-- ---- as it ends

pub rest_ready : (bits : ℕ) (b : State) → IsOfData bits b
    → (stopped b).pdcp ≡ record b.pdcp { rx = hears Reestablished (all_joined b.rx) b.pdcp.rx }
unfolding stopped
rest_ready bits b h =
    (hears_so Reestablished (all_joined b.rx) (record { pdcp = b.pdcp; events = [] }) (is_um bits b h) h.idle).left

rest_ups : (bits : ℕ) (b : State) → IsOfData bits b
    → ups_among (um_stopping b) ≡ raises Reestablished (all_joined b.rx) b.pdcp.rx
unfolding um_stopping
rest_ups bits b h =
    (hears_so Reestablished (all_joined b.rx) (record { pdcp = b.pdcp; events = [] }) (is_um bits b h) h.idle).ups

pub hears_the_rest_at_the_end : (bits : ℕ) (b : State) → IsOfData bits b → HearsTheRest b
unfolding stopping
hears_the_rest_at_the_end bits b h =
    record { heard = ap (λ (e : Ends). e.rx) (rest_ready bits b h); ups = rest_ups bits b h }

pub still_idle : (bits : ℕ) (b : State) → IsOfData bits b → (stopped b).pdcp.rx.ready ≡ []
still_idle bits b h = ap (λ (e : Ends). e.rx.ready) (rest_ready bits b h)
    ∙ hears_ready Reestablished (all_joined b.rx) b.pdcp.rx h.idle
