-- What each step of PDCP keeps, each call of a bearer keeps of its PDCP.
use Rattle.std.proofs.Common.{◌≡◌, ℕ, nat_lt, Bool, true, false, if◌then◌else◌, Option, Some, Result, Ok, Err, List, []}
use Rattle.std.proofs.Common.{◌∷◌, ◌++◌, length, None}
use Rattle.bearer.specs.Bearer.{flow_of}
use Rattle.bearer.specs.declared.flow.Flow.{Flow}
use Rattle.bearer.specs.declared.flow.Flow.TheVariants.{Tm, Um, Am}
use Rattle.bearer.specs.Hearing.{arrived as flow_arrived, expired as flow_expired, ticked as flow_ticked, with_discard}
use Rattle.bearer.specs.Lives.{stopped, restarted}
use Rattle.bearer.specs.Submitting.{refusal as flow_refusal, submitted as flow_submitted}
use Rattle.bearer.specs.Taking.{after as flow_after}
use Rattle.bearer.specs.Acknowledged.Hearing.{settled_if, heard_work, hears as am_hears, hears_all as am_hears_all}
use Rattle.bearer.specs.Acknowledged.Hearing.{status_work, confirms, all_confirmed, arrived_left as am_arrived_left}
use Rattle.bearer.specs.Acknowledged.Hearing.{after_arrival as am_after_arrival}
use Rattle.bearer.specs.Acknowledged.Lives.{Ending, hears_last, ends_with, stopped as am_stopped}
use Rattle.bearer.specs.Acknowledged.Lives.{restarted as am_restarted}
use Rattle.bearer.specs.Acknowledged.State.{State as AmBearer, Work, work, fresh as fresh_am}
use Rattle.bearer.specs.Acknowledged.Taking.{status_told, has_prohibit, data_size, feeds as am_feeds, fed as am_fed}
use Rattle.bearer.specs.Acknowledged.Taking.{after_taking as am_after_taking}
use Rattle.bearer.specs.Acknowledged.Timing.{Ticking, clock_left as am_clock_left, after_expiry as am_after_expiry}
use Rattle.bearer.specs.Acknowledged.Timing.{expires_if, ticks, counts, has_ended, discards, ticked as am_ticked}
use Rattle.bearer_pdcp.specs.Discarding.{after_tick, tick_told}
use Rattle.bearer_pdcp.specs.Ends.{Ends, begun as begun_pdcp}
use Rattle.bearer_pdcp.specs.Hearing.{after_hearing, applies}
use Rattle.bearer_pdcp.specs.Lives.{restarted as restarted_pdcp}
use Rattle.bearer_pdcp.specs.Taking.{after_taking as after_pdcp}
use Rattle.bearer_pdcp.specs.Telling.{landed_told, expired_told}
use Rattle.bearer_types.specs.declared.config.BearerConfig.{BearerConfig}
use Rattle.bearer_types.specs.declared.event.Event.{Event}
use Rattle.bearer.specs.Unacknowledged.Hearing.{Hearing, up_left, hears as um_hears, hears_all as um_hears_all}
use Rattle.bearer.specs.Unacknowledged.Hearing.{arrived_left as um_arrived_left, after_arrival as um_after_arrival}
use Rattle.bearer.specs.Unacknowledged.Hearing.{expiry_left, clock_left as um_clock_left}
use Rattle.bearer.specs.Unacknowledged.Hearing.{after_expiry as um_after_expiry, timed_left, counted_down}
use Rattle.bearer.specs.Unacknowledged.Hearing.{after_ticking}
use Rattle.bearer.specs.Unacknowledged.Lives.{stopped as um_stopped, restarted as um_restarted}
use Rattle.bearer.specs.Unacknowledged.State.{State as UmBearer, fresh as fresh_um}
use Rattle.bearer.specs.Unacknowledged.Taking.{Feeding, feeds as um_feeds, fed as um_fed, size_in}
use Rattle.bearer.specs.Unacknowledged.Taking.{after_taking as um_after_taking}
use Rattle.eps_sec.specs.declared.Keys.{Keys}
use Rattle.l2_num.specs.Timers.{ends}
use Rattle.l2_types.specs.declared.channel.Kind.{Kind}
use Rattle.l2_types.specs.declared.channel.Kind.TheVariants as kinds
use Rattle.l2_types.specs.declared.event.Clock.{Clock}
use Rattle.l2_types.specs.declared.event.Clock.TheVariants.{Poll, Reorder, Prohibit}
use Rattle.l2_types.specs.declared.side.Side.{Side}
use Rattle.pdcp_pdu.specs.declared.pdu.PdcpKind.{PdcpKind}
use Rattle.pdcp_pdu.specs.Kinds.{is_am}
use Rattle.pdcp_rx.specs.declared.Cause.{Cause}
use Rattle.pdcp_rx.specs.declared.Cause.TheVariants.{Arrived, Reestablished}
use Rattle.pdcp_tx.specs.State.{Offer, offers, refusal as pdcp_refusal, submitted as pdcp_submitted, confirmed}
use Rattle.rlc_am_rx.specs.Machine.{arrived as rx_arrived, finished, landed, turned}
use Rattle.rlc_am_tx.specs.declared.answers.Heard.{Heard as HeardStatus}
use Rattle.rlc_am_tx.specs.declared.answers.Heard.TheVariants as heard_as
use Rattle.rlc_am_tx.specs.Machine.{after_status, heard as heard_by_sender}
use Rattle.rlc_am_tx.specs.Need.{hungry}
use Rattle.rlc_pdu.specs.declared.Expired.{Expired}
use Rattle.rlc_pdu.specs.declared.Expired.TheVariants.{Done, NotRunning}
use Rattle.rlc_pdu.specs.declared.RlcRefusal.{RlcRefusal}
use Rattle.rlc_pdu.specs.Pdus.{AcknowledgedPdu, Payload, Status, UmdPdu}
use Rattle.rlc_pdu.specs.Reading.{am_at, umd_at}
use Rattle.rlc_um.specs.Receiver.{State as UmReceiver, landing, turning, arrival, expiring, expired as um_expired}
use Rattle.rlc_um.specs.Receiver.{all_joined}
use Rattle.rlc_um.specs.Sender.{is_hungry}
use Rattle.law_node.proofs.Keeping.{IsKept}

-- a property of PDCP at one end that no step of it takes away
pub record Passes (P : Ends → Type 0) : Type 0 where
  pub heard : (pdu : List ℕ) (cause : Cause) (e : Ends) → P e → P (after_hearing pdu cause e)
  pub ticked : (e : Ends) → P e → P (after_tick e)
  pub taken : (e : Ends) → P e → P (after_pdcp e)
  pub confirms : (e : Ends) (place : ℕ) → P e → P (record e { tx = confirmed e.tx place })
  pub submits : (e : Ends) (octets : List ℕ) → pdcp_refusal e.tx octets ≡ None → P e
      → P (record e { tx = pdcp_submitted e.tx octets })
  pub discards : (e : Ends) (ttis : ℕ) → P e → P (record e { tx = record e.tx { discard = Some ttis } })
  pub restarts : (e : Ends) (keys : Keys) → P e → P (restarted_pdcp e keys)

-- a transparent bearer has no PDCP
abbrev pub OfPdcp : (Ends → Type 0) → Flow → Type 0
OfPdcp P (Tm b) = Unit {0}
OfPdcp P (Um b) = P b.pdcp
OfPdcp P (Am b) = P b.pdcp

-- ---- an unacknowledged bearer

um_hear : (P : Ends → Type 0) (k : Passes P) (sdus : List (List ℕ)) (cause : Cause) (h : Hearing) → P h.pdcp
    → P (um_hears_all sdus cause h).pdcp
um_hear P k [] cause h p = p
um_hear P k (sdu ∷ sdus) cause h p = um_hear P k sdus cause (um_hears sdu cause h) (k.heard sdu cause h.pdcp p)

um_up : (P : Ends → Type 0) (k : Passes P) (r : UmReceiver) (told : List Event) (b : UmBearer) → P b.pdcp
    → P (up_left r told b).pdcp
um_up P k r told b p = um_hear P k r.joined.ready Arrived (record { pdcp = b.pdcp; events = told }) p

um_arrives : (P : Ends → Type 0) (k : Passes P) (r : Result UmdPdu RlcRefusal) (b : UmBearer) → P b.pdcp
    → P (um_arrived_left r b).pdcp
um_arrives P k (Err fault) b p = p
um_arrives P k (Ok pdu) b p =
    um_up P k (arrival pdu b.rx) (landed_told b.pdcp.lcid (landing pdu b.rx) (turning pdu b.rx)) b p

um_expiry : (P : Ends → Type 0) (k : Passes P) (x : Expired) (b : UmBearer) → P b.pdcp → P (expiry_left x b).pdcp
um_expiry P k NotRunning b p = p
um_expiry P k (Done again) b p = um_up P k (um_expired b.rx) (expired_told b.pdcp.lcid Reorder again) b p

um_clock : (P : Ends → Type 0) (k : Passes P) (clock : Clock) (b : UmBearer) → P b.pdcp → P (um_clock_left clock b).pdcp
um_clock P k Poll b p = p
um_clock P k Reorder b p = um_expiry P k (expiring b.rx) b p
um_clock P k Prohibit b p = p

um_expires : (P : Ends → Type 0) (k : Passes P) (clock : Clock) (b : UmBearer) → P b.pdcp
    → P (um_after_expiry b clock).pdcp
unfolding um_after_expiry
um_expires P k clock b p = um_clock P k clock b p

um_timed : (P : Ends → Type 0) (k : Passes P) (t : Bool) (b : UmBearer) → P b.pdcp → P (timed_left t b).pdcp
um_timed P k true b p = um_expires P k Reorder b p
um_timed P k false b p = p

um_feeds_if : (P : Ends → Type 0) (t : Bool) (f g : Feeding) → P f.pdcp → P g.pdcp → P (if t then g else f).pdcp
um_feeds_if P true f g p q = q
um_feeds_if P false f g p q = p

um_feeding : (P : Ends → Type 0) (k : Passes P) (os : List Offer) (size : ℕ) (held : Option ℕ) (f : Feeding)
    → P f.pdcp → P (um_feeds os size held f).pdcp
um_feeding P k [] size held f p = p
um_feeding P k (o ∷ os) size held f p =
    um_feeds_if P (is_hungry f.tx size held) f (um_feeds os size held (um_fed f)) p
    (um_feeding P k os size held (um_fed f) (k.taken f.pdcp p))

-- ---- an acknowledged bearer

settles : (P : Ends → Type 0) (t : Bool) (w : Work) → P w.pdcp → P (settled_if t w).pdcp
settles P true w p = p
settles P false w p = p

am_hear : (P : Ends → Type 0) (k : Passes P) (sdus : List (List ℕ)) (w : Work) → P w.pdcp → P (am_hears_all sdus w).pdcp
am_hear P k [] w p = p
am_hear P k (sdu ∷ sdus) w p =
    am_hear P k sdus (am_hears sdu w)
    (settles P (applies sdu Arrived w.pdcp) (heard_work sdu w) (k.heard sdu Arrived w.pdcp p))

status_told_of : (P : Ends → Type 0) (h : HeardStatus) (w : Work) → P w.pdcp → P (status_work h w).pdcp
status_told_of P heard_as.Ignored w p = p
status_told_of P (heard_as.Limit sn) w p = p
status_told_of P (heard_as.Applied stopped') w p = p

all_confirm : (P : Ends → Type 0) (k : Passes P) (places : List ℕ) (e : Ends) → P e → P (confirms places e)
all_confirm P k [] e p = p
all_confirm P k (place ∷ places) e p =
    all_confirm P k places (record e { tx = confirmed e.tx place }) (k.confirms e place p)

am_arrives : (P : Ends → Type 0) (k : Passes P) (r : Result AcknowledgedPdu RlcRefusal) (b : AmBearer) → P b.pdcp
    → P (am_arrived_left r b).pdcp
am_arrives P k (Err fault) b p = p
am_arrives P k (Ok (Payload pdu)) b p =
    am_hear P k (rx_arrived b.rx pdu).out.ready
    (work b.pdcp b.tx (landed_told b.pdcp.lcid (landed b.rx pdu) (turned b.rx pdu))) p
am_arrives P k (Ok (Status pdu)) b p =
    let s = after_status b.tx pdu in
    status_told_of P (heard_by_sender b.tx pdu) (work (confirms s.accounts.news b.pdcp) (all_confirmed s) [])
    (all_confirm P k s.accounts.news b.pdcp p)

am_clock : (P : Ends → Type 0) (clock : Clock) (b : AmBearer) → P b.pdcp → P (am_clock_left clock b).pdcp
am_clock P Poll b p = p
am_clock P Reorder b p = p
am_clock P Prohibit b p = p

am_expires : (P : Ends → Type 0) (clock : Clock) (b : AmBearer) → P b.pdcp → P (am_after_expiry b clock).pdcp
unfolding am_after_expiry
am_expires P clock b p = am_clock P clock b p

am_counts : (P : Ends → Type 0) (clock : Clock) (b : AmBearer) → P b.pdcp → P (counts clock b).pdcp
am_counts P Poll b p = p
am_counts P Reorder b p = p
am_counts P Prohibit b p = p

am_ended : (P : Ends → Type 0) (t : Bool) (clock : Clock) (x : Ticking) → P x.bearer.pdcp
    → P (expires_if t clock x).bearer.pdcp
am_ended P true clock x p = am_expires P clock x.bearer p
am_ended P false clock x p = p

am_ticks : (P : Ends → Type 0) (clock : Clock) (x : Ticking) → P x.bearer.pdcp → P (ticks clock x).bearer.pdcp
am_ticks P clock x p =
    am_ended P (has_ended clock x.bearer) clock (record x { bearer = counts clock x.bearer })
    (am_counts P clock x.bearer p)

am_discards : (P : Ends → Type 0) (k : Passes P) (x : Ticking) → P x.bearer.pdcp → P (discards x).bearer.pdcp
am_discards P k x p =
    let told = tick_told x.bearer.pdcp in
    settles P (nat_lt 0 (length told)) (work (after_tick x.bearer.pdcp) x.bearer.tx (x.events ++ told))
    (k.ticked x.bearer.pdcp p)

am_ticked_of : (P : Ends → Type 0) (k : Passes P) (b : AmBearer) → P b.pdcp → P (am_ticked b).bearer.pdcp
unfolding am_ticked
am_ticked_of P k b p =
    let x : Ticking = record { bearer = b; events = [] } in
    let y = ticks Poll x in
    let z = ticks Reorder y in
    am_discards P k (ticks Prohibit z) (am_ticks P Prohibit z (am_ticks P Reorder y (am_ticks P Poll x p)))

am_last : (P : Ends → Type 0) (k : Passes P) (sdus : List (List ℕ)) (e : Ending) → P e.pdcp → P (hears_last sdus e).pdcp
am_last P k [] e p = p
am_last P k (sdu ∷ sdus) e p = am_last P k sdus _ (k.heard sdu Reestablished e.pdcp p)

am_ends : (P : Ends → Type 0) (k : Passes P) (t : Bool) (sdus : List (List ℕ)) (e : Ending) → P e.pdcp
    → P (ends_with t sdus e).pdcp
am_ends P k true sdus e p = am_last P k sdus e p
am_ends P k false sdus e p = p

am_feeds_if : (P : Ends → Type 0) (t : Bool) (w v : Work) → P w.pdcp → P v.pdcp → P (if t then v else w).pdcp
am_feeds_if P true w v p q = q
am_feeds_if P false w v p q = p

am_feeding : (P : Ends → Type 0) (k : Passes P) (os : List Offer) (size : ℕ) (held : Option ℕ) (w : Work) → P w.pdcp
    → P (am_feeds os size held w).pdcp
am_feeding P k [] size held w p = p
am_feeding P k (o ∷ os) size held w p =
    am_feeds_if P (hungry w.tx size held) w (am_feeds os size held (am_fed w)) p
    (am_feeding P k os size held (am_fed w) (k.taken w.pdcp p))

-- ---- a bearer of any kind

pub arrives : (P : Ends → Type 0) (k : Passes P) (f : Flow) (pdu : List ℕ) → OfPdcp P f → OfPdcp P (flow_arrived f pdu)
unfolding flow_arrived um_after_arrival am_after_arrival
arrives P k (Tm b) pdu p = p
arrives P k (Um b) pdu p = um_arrives P k (umd_at b.bits pdu) b p
arrives P k (Am b) pdu p = am_arrives P k (am_at pdu) b p

pub expires : (P : Ends → Type 0) (k : Passes P) (f : Flow) (clock : Clock) → OfPdcp P f
    → OfPdcp P (flow_expired f clock)
unfolding flow_expired
expires P k (Tm b) clock p = p
expires P k (Um b) clock p = um_expires P k clock b p
expires P k (Am b) clock p = am_expires P clock b p

pub ticks_of : (P : Ends → Type 0) (k : Passes P) (f : Flow) → OfPdcp P f → OfPdcp P (flow_ticked f)
unfolding flow_ticked after_ticking
ticks_of P k (Tm b) p = p
ticks_of P k (Um b) p = let t = ends b.rx.clock in
    k.ticked (timed_left t (counted_down b)).pdcp (um_timed P k t (counted_down b) p)
ticks_of P k (Am b) p = am_ticked_of P k b p

pub submits_of : (P : Ends → Type 0) (k : Passes P) (f : Flow) (octets : List ℕ) → flow_refusal f octets ≡ None
    → OfPdcp P f → OfPdcp P (flow_submitted f octets)
unfolding flow_submitted flow_refusal
submits_of P k (Tm b) octets r p = p
submits_of P k (Um b) octets r p = k.submits b.pdcp octets r p
submits_of P k (Am b) octets r p = k.submits b.pdcp octets r p

pub discards_of : (P : Ends → Type 0) (k : Passes P) (f : Flow) (ttis : ℕ) → OfPdcp P f → OfPdcp P (with_discard f ttis)
unfolding with_discard
discards_of P k (Tm b) ttis p = p
discards_of P k (Um b) ttis p = k.discards b.pdcp ttis p
discards_of P k (Am b) ttis p = k.discards b.pdcp ttis p

pub takes_of : (P : Ends → Type 0) (k : Passes P) (f : Flow) (share : ℕ) (held : Option ℕ) → OfPdcp P f
    → OfPdcp P (flow_after f share held)
unfolding flow_after um_after_taking am_after_taking
takes_of P k (Tm b) share held p = p
takes_of P k (Um b) share held p =
    um_feeding P k (offers b.pdcp.tx) (size_in share) held (record { pdcp = b.pdcp; tx = b.tx; events = [] }) p
takes_of P k (Am b) share held p =
    am_feeding P k (offers b.pdcp.tx) (data_size b share) held
    (work b.pdcp b.tx (status_told b.pdcp.lcid (has_prohibit b) b.rx share)) p

pub moves_of : (P : Ends → Type 0) (k : Passes P) (f : Flow) (keys : Keys) → OfPdcp P f
    → OfPdcp P (restarted (stopped f) keys)
unfolding restarted stopped um_restarted um_stopped am_restarted am_stopped
moves_of P k (Tm b) keys p = p
moves_of P k (Um b) keys p =
    k.restarts (um_stopped b).pdcp keys
    (um_hear P k (all_joined b.rx) Reestablished (record { pdcp = b.pdcp; events = [] }) p)
moves_of P k (Am b) keys p =
    k.restarts (am_stopped b).pdcp keys
    (am_ends P k (is_am b.pdcp.kind) (finished b.rx) (record { pdcp = b.pdcp; events = [] }) p)

begins_of : (P : ℕ → Ends → Type 0)
    → ((lcid : ℕ) (kind : PdcpKind) (first : ℕ) (keys : Keys) (side : Side)
    → P lcid (begun_pdcp lcid kind first keys side))
    → (kind : Kind) (c : BearerConfig) (keys : Keys) (side : Side)
    → OfPdcp (P c.channel.lcid) (flow_of kind c keys side)
unfolding fresh_um fresh_am
begins_of P b kinds.Tm c keys side = tt
begins_of P b kinds.Srb c keys side = b c.channel.lcid _ c.first keys side
begins_of P b kinds.Um c keys side = b c.channel.lcid _ c.first keys side
begins_of P b kinds.Am c keys side = b c.channel.lcid _ c.first keys side

pub pdcp_kept : (P : ℕ → Ends → Type 0) → ((lcid : ℕ) → Passes (P lcid))
    → ((lcid : ℕ) (kind : PdcpKind) (first : ℕ) (keys : Keys) (side : Side)
    → P lcid (begun_pdcp lcid kind first keys side))
    → IsKept (λ (lcid : ℕ) (f : Flow). OfPdcp (P lcid) f)
pdcp_kept P k b = record {
  idle = tt;
  begins = λ c keys side g. begins_of P b c.kind c keys side;
  submits = λ lcid f octets r p. submits_of (P lcid) (k lcid) f octets r p;
  discards = λ lcid f ttis p. discards_of (P lcid) (k lcid) f ttis p;
  takes = λ lcid f share held most p. takes_of (P lcid) (k lcid) f share held p;
  arrives = λ lcid f pdu p. arrives (P lcid) (k lcid) f pdu p;
  expires = λ lcid f clock p. expires (P lcid) (k lcid) f clock p;
  ticks = λ lcid f p. ticks_of (P lcid) (k lcid) f p;
  moves = λ lcid f keys p. moves_of (P lcid) (k lcid) f keys p;
}
