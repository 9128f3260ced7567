-- What waits at a bearer, and what it has sent, can be written as PDUs.
use Rattle.std.proofs.Common.{◌≡◌, ◌≤◌, ℕ, ◌-◌, ◌==◌, nat_lt, Bool, true, false}
use Rattle.std.proofs.Common.{if◌then◌else◌, Option, None, Result, Ok, Err, List, [], ◌∷◌, ◌++◌, length}
use Rattle.std.proofs.Common.{refl, subst}
use Rattle.bearer.specs.Bearer.{flow_of}
use Rattle.bearer.specs.declared.flow.Flow.{Flow}
use Rattle.bearer.specs.declared.flow.Flow.TheVariants.{Tm, Um, Am}
use Rattle.bearer.specs.Hearing.{arrived as flow_arrived, expired as flow_expired, ticked as flow_ticked, with_discard}
use Rattle.bearer.specs.Lives.{stopped, restarted}
use Rattle.bearer.specs.Submitting.{refusal as flow_refusal, submitted as flow_submitted}
use Rattle.bearer.specs.Taking.{after as flow_after}
use Rattle.bearer.specs.Acknowledged.Hearing.{settled_if, heard_work, hears as am_hears, hears_all as am_hears_all}
use Rattle.bearer.specs.Acknowledged.Hearing.{status_work, confirms, all_confirmed, arrived_left as am_arrived_left}
use Rattle.bearer.specs.Acknowledged.Hearing.{after_arrival as am_after_arrival}
use Rattle.bearer.specs.Acknowledged.Lives.{stopped as am_stopped, restarted as am_restarted}
use Rattle.bearer.specs.Acknowledged.State.{State as AmBearer, Work, work, has_more, fresh as fresh_am}
use Rattle.bearer.specs.Acknowledged.Taking.{data_size, writes_status}
use Rattle.bearer.specs.Acknowledged.Taking.{feeding as am_feeding}
use Rattle.bearer.specs.Acknowledged.Taking.{after_taking as am_after_taking}
use Rattle.bearer.specs.Acknowledged.Timing.{Ticking, clock_left as am_clock_left, after_expiry as am_after_expiry}
use Rattle.bearer.specs.Acknowledged.Timing.{expires_if, ticks, counts, has_ended, discards, ticked as am_ticked}
use Rattle.bearer_pdcp.specs.Discarding.{after_tick, tick_told}
use Rattle.bearer_pdcp.specs.Hearing.{applies}
use Rattle.bearer_pdcp.specs.Telling.{landed_told}
use Rattle.bearer_types.specs.Configs.{IsConfig, AreRlcBits, ArePdcpBits}
use Rattle.bearer_types.specs.declared.config.BearerConfig.{BearerConfig}
use Rattle.bearer.specs.Unacknowledged.Hearing.{arrived_left as um_arrived_left, after_arrival as um_after_arrival}
use Rattle.bearer.specs.Unacknowledged.Hearing.{after_expiry as um_after_expiry, counted_down}
use Rattle.bearer.specs.Unacknowledged.Hearing.{after_ticking}
use Rattle.bearer.specs.Unacknowledged.Lives.{stopped as um_stopped, restarted as um_restarted}
use Rattle.bearer.specs.Unacknowledged.State.{fresh as fresh_um}
use Rattle.eps_sec.specs.declared.Keys.{Keys}
use Rattle.l2_num.specs.Timers.{ends}
use Rattle.l2_types.specs.declared.channel.Kind.{Kind}
use Rattle.l2_types.specs.declared.channel.Kind.TheVariants as kinds
use Rattle.l2_types.specs.declared.event.Clock.{Clock}
use Rattle.l2_types.specs.declared.event.Clock.TheVariants.{Poll, Reorder, Prohibit}
use Rattle.l2_types.specs.declared.side.Side.{Side}
use Rattle.pdcp_pdu.specs.declared.pdu.PdcpKind.{PdcpKind}
use Rattle.pdcp_pdu.specs.declared.pdu.PdcpKind.TheVariants as pdcp
use Rattle.pdcp_pdu.specs.Kinds.{IsKind}
use Rattle.pdcp_rx.specs.declared.Cause.TheVariants.{Arrived}
use Rattle.rlc_am_rx.specs.Machine.{landed, turned, arrived as rx_arrived, written as status_written_of}
use Rattle.rlc_am_tx.specs.declared.answers.Heard.{Heard as HeardStatus}
use Rattle.rlc_am_tx.specs.declared.answers.Heard.TheVariants as heard_as
use Rattle.rlc_am_tx.specs.Machine.{State as AmSender, heard, after_status, after_tick as sender_ticked}
use Rattle.rlc_am_tx.specs.Machine.{turn as am_turn}
use Rattle.rlc_pdu.specs.declared.RlcRefusal.{RlcRefusal}
use Rattle.rlc_pdu.specs.Pdus.{AcknowledgedPdu, Payload, Status}
use Rattle.rlc_pdu.specs.Reading.{am_at, umd_at}
use Rattle.rlc_queue.specs.Waiting.{HaveOctets}
use Rattle.rlc_um.specs.Transparent.{after_take as tm_after}
use Rattle.law_node.proofs.Ages.{more_octets, taken_by}
use Rattle.law_node.proofs.AmWithin.{able}
use Rattle.law_node.proofs.Keeping.{IsKept}
use Rattle.law_node.proofs.Offers.{Offers, offers_pass, begun_offers}
use Rattle.law_node.proofs.Pdcp.{OfPdcp, arrives, expires, ticks_of, submits_of, discards_of, takes_of, moves_of}
use Rattle.law_node.proofs.Receiving.{AreShort, arrived_short, reorder_short}
use Rattle.law_node.proofs.Takings.{behind_octets}
use Rattle.law_node.proofs.Senders.{UmReady, um_still, um_arrives, um_expires, um_timed, um_takes, CanSend, same_can}
use Rattle.law_node.proofs.Senders.{settled_can, status_can, poll_can, am_fed_can, turned_can, size_most}

-- ---- an acknowledged bearer

pub record AmReady (kind : PdcpKind) (b : AmBearer) : Type 0 where
  pub can : CanSend kind b.tx
  pub cells : AreShort b.rx.window.slots

settled_work_can : (kind : PdcpKind) (b : Bool) (w : Work) → CanSend kind w.tx → CanSend kind (settled_if b w).tx
settled_work_can kind true w c = settled_can kind w.tx (has_more w.pdcp) c
settled_work_can kind false w c = c

hears_can : (kind : PdcpKind) (sdus : List (List ℕ)) (w : Work) → CanSend kind w.tx
    → CanSend kind (am_hears_all sdus w).tx
hears_can kind [] w c = c
hears_can kind (sdu ∷ sdus) w c =
    hears_can kind sdus (am_hears sdu w) (settled_work_can kind (applies sdu Arrived w.pdcp) (heard_work sdu w) c)

told_can : (kind : PdcpKind) (h : HeardStatus) (w : Work) → CanSend kind w.tx → CanSend kind (status_work h w).tx
told_can kind heard_as.Ignored w c = c
told_can kind (heard_as.Limit sn) w c = c
told_can kind (heard_as.Applied stopped') w c = settled_can kind w.tx (has_more w.pdcp) c

am_arrives : (kind : PdcpKind) (r : Result AcknowledgedPdu RlcRefusal) (b : AmBearer) → AmReady kind b
    → AmReady kind (am_arrived_left r b)
am_arrives kind (Err fault) b r = r
am_arrives kind (Ok (Payload p)) b r = record {
  can =
      hears_can kind (rx_arrived b.rx p).out.ready
      (work b.pdcp b.tx (landed_told b.pdcp.lcid (landed b.rx p) (turned b.rx p))) r.can;
  cells = arrived_short b.rx p r.cells;
}
am_arrives kind (Ok (Status p)) b r =
    let s : AmSender = after_status b.tx p in
    record {
      can = told_can kind (heard b.tx p) (work (confirms s.accounts.news b.pdcp) (all_confirmed s) [])
          (same_can kind s (all_confirmed s) refl refl (status_can kind b.tx p r.can));
      cells = r.cells;
    }

am_clock : (kind : PdcpKind) (clock : Clock) (b : AmBearer) → AmReady kind b → AmReady kind (am_clock_left clock b)
am_clock kind Poll b r = record { can = poll_can kind b.tx (has_more b.pdcp) r.can; cells = r.cells }
am_clock kind Reorder b r = record { can = r.can; cells = reorder_short b.rx.mark b.rx r.cells }
am_clock kind Prohibit b r = record { can = r.can; cells = r.cells }

am_expires : (kind : PdcpKind) (clock : Clock) (b : AmBearer) → AmReady kind b → AmReady kind (am_after_expiry b clock)
unfolding am_after_expiry
am_expires kind clock b r = am_clock kind clock b r

am_counts : (kind : PdcpKind) (clock : Clock) (b : AmBearer) → AmReady kind b → AmReady kind (counts clock b)
am_counts kind Poll b r = record { can = same_can kind b.tx (sender_ticked b.tx) refl refl r.can; cells = r.cells }
am_counts kind Reorder b r = record { can = r.can; cells = r.cells }
am_counts kind Prohibit b r = record { can = r.can; cells = r.cells }

am_ended : (kind : PdcpKind) (t : Bool) (clock : Clock) (x : Ticking) → AmReady kind x.bearer
    → AmReady kind (expires_if t clock x).bearer
am_ended kind true clock x r = am_expires kind clock x.bearer r
am_ended kind false clock x r = r

am_ticks : (kind : PdcpKind) (clock : Clock) (x : Ticking) → AmReady kind x.bearer → AmReady kind (ticks clock x).bearer
am_ticks kind clock x r =
    am_ended kind (has_ended clock x.bearer) clock (record x { bearer = counts clock x.bearer })
    (am_counts kind clock x.bearer r)

am_discards : (kind : PdcpKind) (x : Ticking) → AmReady kind x.bearer → AmReady kind (discards x).bearer
am_discards kind x r =
    let told = tick_told x.bearer.pdcp in
    record {
      can =
          settled_work_can kind (nat_lt 0 (length told))
          (work (after_tick x.bearer.pdcp) x.bearer.tx (x.events ++ told)) r.can;
      cells = r.cells;
    }

am_ticked_ready : (kind : PdcpKind) (b : AmBearer) → AmReady kind b → AmReady kind (am_ticked b).bearer
unfolding am_ticked
am_ticked_ready kind b r =
    let x : Ticking = record { bearer = b; events = [] } in
    let y = ticks Poll x in
    let z = ticks Reorder y in
    am_discards kind (ticks Prohibit z) (am_ticks kind Prohibit z (am_ticks kind Reorder y (am_ticks kind Poll x r)))

left_short : (t : Bool) (b : AmBearer) → AreShort b.rx.window.slots
    → AreShort (if t then status_written_of b.rx else b.rx).window.slots
left_short true b a = a
left_short false b a = a

am_takes : (kind : PdcpKind) (b : AmBearer) (share : ℕ) (held : Option ℕ) → share ≤ 9424 → IsKind kind
    → Offers kind b.pdcp → AmReady kind b → AmReady kind (am_after_taking b share held)
unfolding am_after_taking
am_takes kind b share held most known o r =
    let w = am_feeding b share held in
    let size = data_size b share in
    let more = has_more w.pdcp in
    record {
      can = turned_can kind (am_turn w.tx size held more) w.tx size more (able w.tx size held more)
          (size_most b share most) (am_fed_can kind b share held known o r.can);
      cells = left_short (writes_status b.rx share) b r.cells;
    }

-- ---- a bearer of any kind

abbrev pub IsReady : PdcpKind → Flow → Type 0
IsReady kind (Tm b) = HaveOctets b.waiting
IsReady kind (Um b) = UmReady kind b
IsReady kind (Am b) = AmReady kind b

ready_arrives : (kind : PdcpKind) (f : Flow) (pdu : List ℕ) → IsReady kind f → IsReady kind (flow_arrived f pdu)
unfolding flow_arrived um_after_arrival am_after_arrival
ready_arrives kind (Tm b) pdu r = r
ready_arrives kind (Um b) pdu r =
    um_still kind b (um_arrived_left (umd_at b.bits pdu) b) (um_arrives (umd_at b.bits pdu) b) r
ready_arrives kind (Am b) pdu r = am_arrives kind (am_at pdu) b r

ready_expires : (kind : PdcpKind) (f : Flow) (clock : Clock) → IsReady kind f → IsReady kind (flow_expired f clock)
unfolding flow_expired
ready_expires kind (Tm b) clock r = r
ready_expires kind (Um b) clock r = um_still kind b (um_after_expiry b clock) (um_expires clock b) r
ready_expires kind (Am b) clock r = am_expires kind clock b r

ready_ticks : (kind : PdcpKind) (f : Flow) → IsReady kind f → IsReady kind (flow_ticked f)
unfolding flow_ticked after_ticking
ready_ticks kind (Tm b) r = r
ready_ticks kind (Um b) r =
    let t = ends b.rx.clock in
    let s = um_timed t (counted_down b) in
    um_still kind b (after_ticking b) (record { tx_is = s.tx_is; bits_is = s.bits_is }) r
ready_ticks kind (Am b) r = am_ticked_ready kind b r

ready_submits : (kind : PdcpKind) (f : Flow) (octets : List ℕ) → flow_refusal f octets ≡ None → IsReady kind f
    → IsReady kind (flow_submitted f octets)
unfolding flow_submitted flow_refusal
ready_submits kind (Tm b) octets e r = more_octets b.waiting octets (taken_by (length octets == 0) b octets refl e) r
ready_submits kind (Um b) octets e r = record { bits = r.bits; same = r.same; octets = r.octets; queue = r.queue }
ready_submits kind (Am b) octets e r = record { can = r.can; cells = r.cells }

ready_discards : (kind : PdcpKind) (f : Flow) (ttis : ℕ) → IsReady kind f → IsReady kind (with_discard f ttis)
unfolding with_discard
ready_discards kind (Tm b) ttis r = r
ready_discards kind (Um b) ttis r = record { bits = r.bits; same = r.same; octets = r.octets; queue = r.queue }
ready_discards kind (Am b) ttis r = record { can = r.can; cells = r.cells }

ready_takes : (kind : PdcpKind) (f : Flow) (share : ℕ) (held : Option ℕ) → share ≤ 9424 → IsKind kind
    → OfPdcp (Offers kind) f → IsReady kind f → IsReady kind (flow_after f share held)
unfolding flow_after tm_after
ready_takes kind (Tm b) share held most known o r = behind_octets b.next (share - 3) b.waiting r
ready_takes kind (Um b) share held most known o r = um_takes kind b share held known o r
ready_takes kind (Am b) share held most known o r = am_takes kind b share held most known o r

ready_moves : (kind : PdcpKind) (f : Flow) (keys' : Keys) → IsReady kind f → IsReady kind (restarted (stopped f) keys')
unfolding restarted stopped um_restarted um_stopped am_restarted am_stopped
ready_moves kind (Tm b) keys' r = tt
ready_moves kind (Um b) keys' r = record { bits = r.bits; same = refl; octets = tt; queue = tt }
ready_moves kind (Am b) keys' r = record { can = record { octets = tt; queue = tt; slots = tt }; cells = tt }

-- ---- the kind of a bearer's PDCP, which no call changes; a transparent one has none

pub record WritesWell (lcid : ℕ) (f : Flow) : Type 0 where
  pub kind : PdcpKind
  pub known : IsKind kind
  pub offers' : OfPdcp (Offers kind) f
  pub ready : IsReady kind f

fresh_writes : (k : Kind) (c : BearerConfig) (keys' : Keys) (side : Side) → c.kind ≡ k → IsConfig c
    → WritesWell c.channel.lcid (flow_of k c keys' side)
unfolding fresh_um fresh_am
fresh_writes kinds.Tm c keys' side e g = record { kind = pdcp.Srb; known = tt; offers' = tt; ready = tt }
fresh_writes kinds.Srb c keys' side e g = record {
  kind = pdcp.Srb;
  known = tt;
  offers' = begun_offers c.channel.lcid pdcp.Srb c.first keys' side;
  ready = record { can = record { octets = tt; queue = tt; slots = tt }; cells = tt };
}
fresh_writes kinds.Um c keys' side e g = record {
  kind = pdcp.Um c.pdcp_bits;
  known = subst (λ (k : Kind). ArePdcpBits k c.pdcp_bits) e g.pdcp_bits;
  offers' = begun_offers c.channel.lcid (pdcp.Um c.pdcp_bits) c.first keys' side;
  ready = record {
    bits = subst (λ (k : Kind). AreRlcBits k c.rlc_bits) e g.rlc_bits;
    same = refl;
    octets = tt;
    queue = tt;
  };
}
fresh_writes kinds.Am c keys' side e g = record {
  kind = pdcp.Am c.pdcp_bits;
  known = subst (λ (k : Kind). ArePdcpBits k c.pdcp_bits) e g.pdcp_bits;
  offers' = begun_offers c.channel.lcid (pdcp.Am c.pdcp_bits) c.first keys' side;
  ready = record { can = record { octets = tt; queue = tt; slots = tt }; cells = tt };
}

pub ready_kept : IsKept WritesWell
ready_kept = record {
  idle = record { kind = pdcp.Srb; known = tt; offers' = tt; ready = tt };
  begins = λ c keys' side g. fresh_writes c.kind c keys' side refl g;
  submits = λ lcid f octets e p. record {
    kind = p.kind;
    known = p.known;
    offers' = submits_of (Offers p.kind) (offers_pass p.kind p.known) f octets e p.offers';
    ready = ready_submits p.kind f octets e p.ready;
  };
  discards = λ lcid f ttis p. record {
    kind = p.kind;
    known = p.known;
    offers' = discards_of (Offers p.kind) (offers_pass p.kind p.known) f ttis p.offers';
    ready = ready_discards p.kind f ttis p.ready;
  };
  takes = λ lcid f share held most p. record {
    kind = p.kind;
    known = p.known;
    offers' = takes_of (Offers p.kind) (offers_pass p.kind p.known) f share held p.offers';
    ready = ready_takes p.kind f share held most p.known p.offers' p.ready;
  };
  arrives = λ lcid f pdu p. record {
    kind = p.kind;
    known = p.known;
    offers' = arrives (Offers p.kind) (offers_pass p.kind p.known) f pdu p.offers';
    ready = ready_arrives p.kind f pdu p.ready;
  };
  expires = λ lcid f clock p. record {
    kind = p.kind;
    known = p.known;
    offers' = expires (Offers p.kind) (offers_pass p.kind p.known) f clock p.offers';
    ready = ready_expires p.kind f clock p.ready;
  };
  ticks = λ lcid f p. record {
    kind = p.kind;
    known = p.known;
    offers' = ticks_of (Offers p.kind) (offers_pass p.kind p.known) f p.offers';
    ready = ready_ticks p.kind f p.ready;
  };
  moves = λ lcid f keys' p. record {
    kind = p.kind;
    known = p.known;
    offers' = moves_of (Offers p.kind) (offers_pass p.kind p.known) f keys' p.offers';
    ready = ready_moves p.kind f keys' p.ready;
  };
}
