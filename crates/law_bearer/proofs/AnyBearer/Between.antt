-- Between calls a bearer tells its own channel, and RLC has nothing ready to be handed up.
use Rattle.std.proofs.Common.{◌≡◌, ℕ, nat_lt, Bool, true, false, if◌then◌else◌, Option, Some, None, Result, Ok, Err}
use Rattle.std.proofs.Common.{List, [], ◌∷◌, ◌++◌, length, refl}
use Rattle.bearer.specs.Bearer.{flow_of}
use Rattle.bearer.specs.declared.flow.Flow.{Flow}
use Rattle.bearer.specs.declared.flow.Flow.TheVariants.{Tm, Um, Am}
use Rattle.bearer.specs.Hearing.{arrived as flow_arrived, expired as flow_expired, ticked as flow_ticked, with_discard}
use Rattle.bearer.specs.Lives.{stopped, restarted}
use Rattle.bearer.specs.Submitting.{submitted as flow_submitted}
use Rattle.bearer.specs.Taking.{after as flow_after}
use Rattle.bearer.specs.Acknowledged.Hearing.{confirms, all_confirmed, status_work, arrived_left as am_arrived_left}
use Rattle.bearer.specs.Acknowledged.Hearing.{after_arrival as am_after_arrival}
use Rattle.bearer.specs.Acknowledged.Lives.{Ending, ends_with, stopped as am_stopped, restarted as am_restarted}
use Rattle.bearer.specs.Acknowledged.State.{State as AmBearer, Work, work, fresh as fresh_am}
use Rattle.bearer.specs.Acknowledged.Taking.{writes_status, status_told, has_prohibit, data_size}
use Rattle.bearer.specs.Acknowledged.Taking.{after_taking as am_after_taking}
use Rattle.bearer.specs.Acknowledged.Timing.{Ticking, clock_left as am_clock_left, after_expiry as am_after_expiry}
use Rattle.bearer.specs.Acknowledged.Timing.{expires_if, ticks, counts, has_ended, ticked as am_ticked}
use Rattle.bearer_pdcp.specs.Discarding.{tick_told, after_tick}
use Rattle.bearer_pdcp.specs.Ends.{begun}
use Rattle.bearer_pdcp.specs.Lives.{restarted as restarted_pdcp}
use Rattle.bearer_pdcp.specs.Telling.{landed_told}
use Rattle.bearer_types.specs.declared.config.BearerConfig.{BearerConfig}
use Rattle.bearer.specs.Unacknowledged.Hearing.{arrived_left as um_arrived_left, after_arrival as um_after_arrival}
use Rattle.bearer.specs.Unacknowledged.Hearing.{expiry_left, clock_left as um_clock_left}
use Rattle.bearer.specs.Unacknowledged.Hearing.{after_expiry as um_after_expiry, timed_left, counted_down}
use Rattle.bearer.specs.Unacknowledged.Hearing.{after_ticking}
use Rattle.bearer.specs.Unacknowledged.Lives.{stopped as um_stopped, restarted as um_restarted}
use Rattle.bearer.specs.Unacknowledged.State.{State as UmBearer, fresh as fresh_um}
use Rattle.bearer.specs.Unacknowledged.Taking.{size_in, after_taking as um_after_taking}
use Rattle.eps_sec.specs.declared.Keys.{Keys}
use Rattle.l2_num.specs.Timers.{ends}
use Rattle.l2_types.specs.declared.channel.Kind.{Kind}
use Rattle.l2_types.specs.declared.channel.Kind.TheVariants as kinds
use Rattle.l2_types.specs.declared.event.Clock.{Clock}
use Rattle.l2_types.specs.declared.event.Clock.TheVariants.{Poll, Reorder, Prohibit}
use Rattle.l2_types.specs.declared.side.Side.{Side}
use Rattle.pdcp_pdu.specs.Kinds.{is_am}
use Rattle.pdcp_rx.specs.declared.Cause.TheVariants.{Arrived, Reestablished}
use Rattle.pdcp_tx.specs.State.{offers}
use Rattle.rlc_am_rx.specs.Machine.{landed, turned, arrived, after_reorder, written, finished}
use Rattle.rlc_am_tx.specs.declared.answers.Heard.{Heard as HeardStatus}
use Rattle.rlc_am_tx.specs.declared.answers.Heard.TheVariants as heard_as
use Rattle.rlc_am_tx.specs.Machine.{heard, after_status}
use Rattle.rlc_am_rx.specs.State.{State as AmReceiver}
use Rattle.rlc_pdu.specs.declared.Expired.{Expired}
use Rattle.rlc_pdu.specs.declared.Expired.TheVariants.{Done, NotRunning}
use Rattle.rlc_pdu.specs.declared.RlcRefusal.{RlcRefusal}
use Rattle.rlc_pdu.specs.Pdus.{AcknowledgedPdu, Payload, Status, UmdPdu}
use Rattle.rlc_pdu.specs.Reading.{am_at, umd_at}
use Rattle.rlc_um.specs.Receiver.{landing, turning, arrival, expiring, all_joined}
use Rattle.law_bearer.specs.AnyBearer.Calls.{Call, Submit, Take, Arrive, Expire, Tick, SetDiscard, after, Step, Calls}
use Rattle.law_bearer.specs.AnyBearer.Calls.{Restart, goes, run_bearer, reached}
use Rattle.law_bearer.proofs.AnyBearer.AmHeard.{all_kept as am_all_kept, settled_kept, confirms_kept, left_kept}
use Rattle.law_bearer.proofs.AnyBearer.AmHeard.{ticks_kept, last_kept}
use Rattle.law_bearer.proofs.AnyBearer.Heard.{um_all_kept, um_left_kept, um_timed_kept}
use Rattle.law_bearer.proofs.AnyBearer.InBlock.{um_kept, am_kept}

abbrev IsEmpty : Flow → Type 0
IsEmpty (Tm b) = Unit {0}
IsEmpty (Um b) = b.rx.joined.ready ≡ []
IsEmpty (Am b) = b.rx.out.ready ≡ []

abbrev IsOwn : ℕ → Flow → Type 0
IsOwn lcid (Tm b) = Unit {0}
IsOwn lcid (Um b) = b.pdcp.lcid ≡ lcid
IsOwn lcid (Am b) = b.pdcp.lcid ≡ lcid

pub record IsBetween (lcid : ℕ) (f : Flow) : Type 0 where
  pub own : IsOwn lcid f
  pub empty : IsEmpty f

-- ---- an unacknowledged bearer

um_arrives : (r : Result UmdPdu RlcRefusal) (b : UmBearer) → b.rx.joined.ready ≡ []
    → (um_arrived_left r b).rx.joined.ready ≡ []
um_arrives (Err fault) b e = e
um_arrives (Ok pdu) b e = refl

um_expiry : (x : Expired) (b : UmBearer) → b.rx.joined.ready ≡ [] → (expiry_left x b).rx.joined.ready ≡ []
um_expiry NotRunning b e = e
um_expiry (Done again) b e = refl

um_clock : (clock : Clock) (b : UmBearer) → b.rx.joined.ready ≡ [] → (um_clock_left clock b).rx.joined.ready ≡ []
um_clock Poll b e = e
um_clock Reorder b e = um_expiry (expiring b.rx) b e
um_clock Prohibit b e = e

um_expires : (clock : Clock) (b : UmBearer) → b.rx.joined.ready ≡ [] → (um_after_expiry b clock).rx.joined.ready ≡ []
unfolding um_after_expiry
um_expires clock b e = um_clock clock b e

um_timed : (t : Bool) (b : UmBearer) → b.rx.joined.ready ≡ [] → (timed_left t b).rx.joined.ready ≡ []
um_timed true b e = um_expires Reorder b e
um_timed false b e = e

-- ---- an acknowledged bearer

am_arrives : (r : Result AcknowledgedPdu RlcRefusal) (b : AmBearer) → b.rx.out.ready ≡ []
    → (am_arrived_left r b).rx.out.ready ≡ []
am_arrives (Err fault) b e = e
am_arrives (Ok (Payload pdu)) b e = refl
am_arrives (Ok (Status pdu)) b e = e

am_reorder : (mark : Option ℕ) (r : AmReceiver) → r.out.ready ≡ [] → (after_reorder mark r).out.ready ≡ []
am_reorder None r e = e
am_reorder (Some x) r e = e

am_clock : (clock : Clock) (b : AmBearer) → b.rx.out.ready ≡ [] → (am_clock_left clock b).rx.out.ready ≡ []
am_clock Poll b e = e
am_clock Reorder b e = am_reorder b.rx.mark b.rx e
am_clock Prohibit b e = e

am_expires : (clock : Clock) (b : AmBearer) → b.rx.out.ready ≡ [] → (am_after_expiry b clock).rx.out.ready ≡ []
unfolding am_after_expiry
am_expires clock b e = am_clock clock b e

am_counts : (clock : Clock) (b : AmBearer) → b.rx.out.ready ≡ [] → (counts clock b).rx.out.ready ≡ []
am_counts Poll b e = e
am_counts Reorder b e = e
am_counts Prohibit b e = e

am_ended : (t : Bool) (clock : Clock) (x : Ticking) → x.bearer.rx.out.ready ≡ []
    → (expires_if t clock x).bearer.rx.out.ready ≡ []
am_ended true clock x e = am_expires clock x.bearer e
am_ended false clock x e = e

am_ticks : (clock : Clock) (x : Ticking) → x.bearer.rx.out.ready ≡ [] → (ticks clock x).bearer.rx.out.ready ≡ []
am_ticks clock x e =
    am_ended (has_ended clock x.bearer) clock (record x { bearer = counts clock x.bearer })
    (am_counts clock x.bearer e)

am_status : (t : Bool) (r : AmReceiver) → r.out.ready ≡ [] → (if t then written r else r).out.ready ≡ []
am_status true r e = e
am_status false r e = e

-- ---- what each call of a bearer leaves

pub begins : (kind : Kind) (c : BearerConfig) (keys : Keys) (side : Side)
    → IsBetween c.channel.lcid (flow_of kind c keys side)
unfolding fresh_um fresh_am begun
begins kinds.Tm c keys side = record { own = tt; empty = tt }
begins kinds.Srb c keys side = record { own = refl; empty = refl }
begins kinds.Um c keys side = record { own = refl; empty = refl }
begins kinds.Am c keys side = record { own = refl; empty = refl }

pub submits : (lcid : ℕ) (f : Flow) (octets : List ℕ) → IsBetween lcid f → IsBetween lcid (flow_submitted f octets)
unfolding flow_submitted
submits lcid (Tm b) octets k = record { own = tt; empty = tt }
submits lcid (Um b) octets k = record { own = k.own; empty = k.empty }
submits lcid (Am b) octets k = record { own = k.own; empty = k.empty }

pub discards : (lcid : ℕ) (f : Flow) (ttis : ℕ) → IsBetween lcid f → IsBetween lcid (with_discard f ttis)
unfolding with_discard
discards lcid (Tm b) ttis k = record { own = tt; empty = tt }
discards lcid (Um b) ttis k = record { own = k.own; empty = k.empty }
discards lcid (Am b) ttis k = record { own = k.own; empty = k.empty }

pub takes : (lcid : ℕ) (f : Flow) (share : ℕ) (held : Option ℕ) → IsBetween lcid f
    → IsBetween lcid (flow_after f share held)
unfolding flow_after um_after_taking am_after_taking
takes lcid (Tm b) share held k = record { own = tt; empty = tt }
takes lcid (Um b) share held k =
    record {
      own =
          um_kept lcid (offers b.pdcp.tx) (size_in share) held (record { pdcp = b.pdcp; tx = b.tx; events = [] }) k.own;
      empty = k.empty;
    }
takes lcid (Am b) share held k = record {
  own = am_kept lcid (offers b.pdcp.tx) (data_size b share) held
      (work b.pdcp b.tx (status_told b.pdcp.lcid (has_prohibit b) b.rx share)) k.own;
  empty = am_status (writes_status b.rx share) b.rx k.empty;
}

um_own : (lcid : ℕ) (r : Result UmdPdu RlcRefusal) (b : UmBearer) → b.pdcp.lcid ≡ lcid
    → (um_arrived_left r b).pdcp.lcid ≡ lcid
um_own lcid (Err fault) b q = q
um_own lcid (Ok pdu) b q =
    um_all_kept lcid (arrival pdu b.rx).joined.ready Arrived
    (record { pdcp = b.pdcp; events = landed_told b.pdcp.lcid (landing pdu b.rx) (turning pdu b.rx) }) q

status_own : (lcid : ℕ) (h : HeardStatus) (w : Work) → w.pdcp.lcid ≡ lcid → (status_work h w).pdcp.lcid ≡ lcid
status_own lcid heard_as.Ignored w q = q
status_own lcid (heard_as.Limit sn) w q = q
status_own lcid (heard_as.Applied stopped') w q = q

am_own : (lcid : ℕ) (r : Result AcknowledgedPdu RlcRefusal) (b : AmBearer) → b.pdcp.lcid ≡ lcid
    → (am_arrived_left r b).pdcp.lcid ≡ lcid
am_own lcid (Err fault) b q = q
am_own lcid (Ok (Payload p)) b q =
    am_all_kept lcid (arrived b.rx p).out.ready
    (work b.pdcp b.tx (landed_told b.pdcp.lcid (landed b.rx p) (turned b.rx p))) q
am_own lcid (Ok (Status p)) b q =
    let s = after_status b.tx p in
    status_own lcid (heard b.tx p) (work (confirms s.accounts.news b.pdcp) (all_confirmed s) [])
    (confirms_kept lcid s.accounts.news b.pdcp q)

pub arrives : (lcid : ℕ) (f : Flow) (pdu : List ℕ) → IsBetween lcid f → IsBetween lcid (flow_arrived f pdu)
unfolding flow_arrived um_after_arrival am_after_arrival
arrives lcid (Tm b) pdu k = record { own = tt; empty = tt }
arrives lcid (Um b) pdu k = record {
  own = um_own lcid (umd_at b.bits pdu) b k.own;
  empty = um_arrives (umd_at b.bits pdu) b k.empty;
}
arrives lcid (Am b) pdu k = record { own = am_own lcid (am_at pdu) b k.own; empty = am_arrives (am_at pdu) b k.empty }

um_clock_own : (lcid : ℕ) (clock : Clock) (b : UmBearer) → b.pdcp.lcid ≡ lcid → (um_clock_left clock b).pdcp.lcid ≡ lcid
um_clock_own lcid Poll b q = q
um_clock_own lcid Reorder b q = um_left_kept lcid (expiring b.rx) b q
um_clock_own lcid Prohibit b q = q

pub expires : (lcid : ℕ) (f : Flow) (clock : Clock) → IsBetween lcid f → IsBetween lcid (flow_expired f clock)
unfolding flow_expired um_after_expiry am_after_expiry
expires lcid (Tm b) clock k = record { own = tt; empty = tt }
expires lcid (Um b) clock k = record { own = um_clock_own lcid clock b k.own; empty = um_clock clock b k.empty }
expires lcid (Am b) clock k = record { own = left_kept lcid clock b k.own; empty = am_clock clock b k.empty }

pub ticks_of : (lcid : ℕ) (f : Flow) → IsBetween lcid f → IsBetween lcid (flow_ticked f)
unfolding flow_ticked after_ticking am_ticked after_tick
ticks_of lcid (Tm b) k = record { own = tt; empty = tt }
ticks_of lcid (Um b) k = record {
  own = um_timed_kept lcid (ends b.rx.clock) (counted_down b) k.own;
  empty = um_timed (ends b.rx.clock) (counted_down b) k.empty;
}
ticks_of lcid (Am b) k =
    let x : Ticking = record { bearer = b; events = [] } in
    let y = ticks Poll x in
    let z = ticks Reorder y in
    let t = ticks Prohibit z in
    let told = tick_told t.bearer.pdcp in
    record {
      own =
          settled_kept lcid (nat_lt 0 (length told)) (work (after_tick t.bearer.pdcp) t.bearer.tx (t.events ++ told))
          (ticks_kept lcid Prohibit z (ticks_kept lcid Reorder y (ticks_kept lcid Poll x k.own)));
      empty = am_ticks Prohibit z (am_ticks Reorder y (am_ticks Poll x k.empty));
    }

ends_own : (lcid : ℕ) (t : Bool) (sdus : List (List ℕ)) (e : Ending) → e.pdcp.lcid ≡ lcid
    → (ends_with t sdus e).pdcp.lcid ≡ lcid
ends_own lcid true sdus e q = last_kept lcid sdus e q
ends_own lcid false sdus e q = q

pub moves : (lcid : ℕ) (f : Flow) (keys : Keys) → IsBetween lcid f → IsBetween lcid (restarted (stopped f) keys)
unfolding restarted stopped um_restarted um_stopped am_restarted am_stopped restarted_pdcp
moves lcid (Tm b) keys k = record { own = tt; empty = tt }
moves lcid (Um b) keys k =
    record {
      own = um_all_kept lcid (all_joined b.rx) Reestablished (record { pdcp = b.pdcp; events = [] }) k.own;
      empty = refl;
    }
moves lcid (Am b) keys k =
    record {
      own = ends_own lcid (is_am b.pdcp.kind) (finished b.rx) (record { pdcp = b.pdcp; events = [] }) k.own;
      empty = refl;
    }

-- ---- through any steps

call_between : (lcid : ℕ) (f : Flow) (c : Call) → IsBetween lcid f → IsBetween lcid (after f c)
call_between lcid f (Submit sdu) k = submits lcid f sdu k
call_between lcid f (Take share held) k = takes lcid f share held k
call_between lcid f (Arrive pdu) k = arrives lcid f pdu k
call_between lcid f (Expire clock) k = expires lcid f clock k
call_between lcid f Tick k = ticks_of lcid f k
call_between lcid f (SetDiscard ttis) k = discards lcid f ttis k

step_between : (lcid : ℕ) (f : Flow) (s : Step) → IsBetween lcid f → IsBetween lcid (goes f s)
step_between lcid f (Calls c) k = call_between lcid f c k
step_between lcid f (Restart keys) k = moves lcid f keys k

run_between : (lcid : ℕ) (steps : List Step) (f : Flow) → IsBetween lcid f → IsBetween lcid (run_bearer steps f)
run_between lcid [] f k = k
run_between lcid (s ∷ steps) f k = run_between lcid steps (goes f s) (step_between lcid f s k)

pub reached_between : (c : BearerConfig) (keys : Keys) (side : Side) (steps : List Step)
    → IsBetween c.channel.lcid (reached c keys side steps)
reached_between c keys side steps =
    run_between c.channel.lcid steps (flow_of c.kind c keys side) (begins c.kind c keys side)
